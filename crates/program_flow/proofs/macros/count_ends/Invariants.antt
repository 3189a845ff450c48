use Rattle.std.proofs.Common.{◌≡◌, ◌+◌, ◌≤◌, length}
use Rattle.program_flow.specs.Named.{count_ends}
use Rattle.program_flow.proofs.macros.count_ends.Given as goal

abbrev pub invariant-loop-left : goal.invariant-loop-left
invariant-loop-left l = (l.count + count_ends l.left ≡ count_ends l.statements) × (l.count + length l.left ≤ length l.statements)

abbrev pub decreases-loop-left : goal.decreases-loop-left
decreases-loop-left l = length l.left
