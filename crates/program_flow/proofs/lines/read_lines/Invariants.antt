use Rattle.std.proofs.Common.{◌≡◌, ◌++◌, length}
use Rattle.program_flow.proofs.lines.read_lines.Given as goal

abbrev pub invariant-loop-left : goal.invariant-loop-left
invariant-loop-left l = l.statements.items ++ l.left ≡ l.lines

abbrev pub decreases-loop-left : goal.decreases-loop-left
decreases-loop-left l = length l.left
