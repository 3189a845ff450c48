use Rattle.program_review.proofs.Names.{◌++◌, ◌≡◌, length, task_lines_of}
use Rattle.program_review.proofs.tasks.task_lines.Given as goal

-- the tasks so far, and those of what is left
abbrev pub invariant-loop-left : goal.invariant-loop-left
invariant-loop-left l = l.tasks.items ++ task_lines_of l.left ≡ task_lines_of l.statements

abbrev pub decreases-loop-left : goal.decreases-loop-left
decreases-loop-left l = length l.left
