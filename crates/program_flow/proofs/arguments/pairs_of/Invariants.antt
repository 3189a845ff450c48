use Rattle.std.proofs.Common.{◌≡◌, ◌++◌, length, map}
use Rattle.program_flow.specs.Macros.{pairs_of}
use Rattle.program_flow.specs.Named.{seen_pair}
use Rattle.program_flow.proofs.arguments.pairs_of.Given as goal

abbrev pub invariant-loop-left : goal.invariant-loop-left
invariant-loop-left l = map seen_pair l.pairs.items ++ pairs_of l.left l.given ≡ pairs_of l.params l.arguments

abbrev pub decreases-loop-left : goal.decreases-loop-left
decreases-loop-left l = length l.left
