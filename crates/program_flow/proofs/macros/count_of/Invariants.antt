use Rattle.std.proofs.Common.{◌≡◌, ◌+◌, length}
use Rattle.program_flow.specs.Macros.{body_of}
use Rattle.program_flow.proofs.macros.count_of.Given as goal

abbrev pub invariant-loop-left : goal.invariant-loop-left
invariant-loop-left l = (l.count + length (body_of l.left) ≡ length (body_of l.below)) × (l.count + length l.left ≡ length l.below)

abbrev pub decreases-loop-left : goal.decreases-loop-left
decreases-loop-left l = length l.left
