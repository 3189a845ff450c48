use Rattle.link_world.proofs.Names.{◌+◌, ◌≡◌, ◌≤◌, length, lines, schedule_of}
use Rattle.link_world.proofs.ScheduleRuns.{read_behind}
use Rattle.link_world.proofs.texts.schedules.Schedule.read.Given as goal

-- the instructions so far, followed by those of the lines that are left, are those of the whole text
abbrev pub invariant-loop-line : goal.invariant-loop-line
invariant-loop-line l = (read_behind (l.number + 1) l.schedule (lines l.rest) ≡ schedule_of l.text)
    × (l.number + length l.rest ≤ length l.text)

abbrev pub decreases-loop-line : goal.decreases-loop-line
decreases-loop-line l = length l.rest
