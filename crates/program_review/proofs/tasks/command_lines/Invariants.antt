use Rattle.program_review.proofs.Names.{◌++◌, ◌≡◌, command_lines_of, drop, flat_map, lines_of}
use Rattle.program_review.proofs.tasks.command_lines.Given as goal

-- the lines so far, and those of the tasks that are left
abbrev pub invariant-loop-task : goal.invariant-loop-task
invariant-loop-task l =
    l.lines.items ++ flat_map lines_of (drop l.task-index l.task-items) ≡ command_lines_of l.touches l.tasks
