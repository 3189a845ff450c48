use Rattle.std.proofs.Common.{◌≡◌, ◌++◌, [], false, length, map}
use Rattle.program_flow.specs.Macros.{replaced_after}
use Rattle.program_flow.specs.Named.{seen_pair}
use Rattle.program_flow.proofs.macros.replaced.Given as goal

abbrev pub invariant-loop-left : goal.invariant-loop-left
invariant-loop-left l = l.made.items ++ replaced_after (map seen_pair l.pairs) l.quoted l.name.items l.left
    ≡ replaced_after (map seen_pair l.pairs) false [] l.text

abbrev pub decreases-loop-left : goal.decreases-loop-left
decreases-loop-left l = length l.left
