use Rattle.std.proofs.Common.{◌≡◌, length, map}
use Rattle.program_flow.specs.Macros.{meaning_of}
use Rattle.program_flow.specs.Named.{seen_pair}
use Rattle.program_flow.proofs.macros.push_meaning.Given as goal

abbrev pub invariant-loop-left : goal.invariant-loop-left
invariant-loop-left l = (l.made.items ≡ l.fn.made.items) × (meaning_of (map seen_pair l.left) l.name ≡ meaning_of (map seen_pair l.pairs) l.name)

abbrev pub decreases-loop-left : goal.decreases-loop-left
decreases-loop-left l = length l.left
