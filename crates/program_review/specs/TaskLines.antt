-- Which statements of a program a client carries out by commands, and on which lines (ISO 22093; the plan is this profile).
use Rattle.std.specs.Prelude.{ℕ, zero, suc, List, [], ◌∷◌, ◌++◌, ◌-◌, Option, Some, None, if◌then◌else◌}
use Rattle.std.specs.List.{flat_map}
use Rattle.dmis_text.specs.declared.elements.Statement.{Statement}
use Rattle.dmis_program.specs.Keywords.{keyword_of}
use Rattle.dmis_program.specs.declared.sayings.StatementMeaning.{StatementMeaning}
use Rattle.dmis_program.specs.declared.sayings.StatementMeaning.TheVariants as said
use Rattle.program_review.specs.UnderSetup.{meaning_with, is_end}
use Rattle.program_review.specs.declared.tasks.Task.{Task}
use Rattle.program_review.specs.declared.tasks.Task.TheVariants as task
use Rattle.program_review.specs.declared.tasks.TaskLine.{TaskLine}

-- what a statement that says this asks for: a `RECALL` of no frame asks for nothing
abbrev pub task_said : Option StatementMeaning → Option Task
task_said (Some (said.Goes target)) = Some task.Move
task_said (Some (said.Touches target direction)) = Some task.Touch
task_said (Some (said.Selects name)) = Some task.Tool
task_said (Some (said.Recalls name)) = Some task.Frame
task_said meaning = None

abbrev pub task_on : ℕ → Option Task → List TaskLine
task_on line None = []
task_on line (Some task) = record { task = task; line = line } ∷ []

-- what the statements up to the first `ENDFIL` ask for, in order
abbrev pub task_lines_of : List Statement → List TaskLine
task_lines_of [] = []
task_lines_of (s ∷ statements) = if is_end (keyword_of s.word) then [] else
    task_on s.line (task_said (meaning_with (keyword_of s.word) s)) ++ task_lines_of statements

-- how many touches are left once a task is done
abbrev pub touches_left : Task → ℕ → ℕ
touches_left task.Touch n = n - 1
touches_left _ n = n

-- the tasks up to the touch of this number
abbrev pub up_to_touch : ℕ → List TaskLine → List TaskLine
up_to_touch zero tasks = []
up_to_touch (suc n) [] = []
up_to_touch (suc n) (t ∷ tasks) = t ∷ up_to_touch (touches_left t.task (suc n)) tasks

-- those after it
abbrev pub after_touch : ℕ → List TaskLine → List TaskLine
after_touch zero tasks = tasks
after_touch (suc n) [] = []
after_touch (suc n) (t ∷ tasks) = after_touch (touches_left t.task (suc n)) tasks

-- the line of a task that selects a tool, or else the line before
abbrev pub tool_with : Option ℕ → Task → ℕ → Option ℕ
tool_with before task.Tool line = Some line
tool_with before _ line = before

-- the line of the last of the tasks that selects a tool, or else the line before
abbrev pub tool_line : Option ℕ → List TaskLine → Option ℕ
tool_line before [] = before
tool_line before (t ∷ tasks) = tool_line (tool_with before t.task t.line) tasks

-- likewise for a frame
abbrev pub frame_with : Option ℕ → Task → ℕ → Option ℕ
frame_with before task.Frame line = Some line
frame_with before _ line = before

abbrev pub frame_line : Option ℕ → List TaskLine → Option ℕ
frame_line before [] = before
frame_line before (t ∷ tasks) = frame_line (frame_with before t.task t.line) tasks

-- the line of the last of the tasks, or else the line before
abbrev pub last_line : Option ℕ → List TaskLine → Option ℕ
last_line before [] = before
last_line before (t ∷ tasks) = last_line (Some t.line) tasks

-- the lines of the commands that a task on a line takes: two for a frame
abbrev pub commands_on : Task → ℕ → List (Option ℕ)
commands_on task.Frame line = Some line ∷ (Some line ∷ [])
commands_on _ line = Some line ∷ []

abbrev pub lines_of : TaskLine → List (Option ℕ)
lines_of t = commands_on t.task t.line

-- those that select again what is selected: a tool, if there is one, and a frame, for which the machine's own takes one command, without a line
abbrev pub tool_again : Option ℕ → List (Option ℕ)
tool_again None = []
tool_again (Some line) = Some line ∷ []

abbrev pub frame_again : Option ℕ → List (Option ℕ)
frame_again None = None ∷ []
frame_again (Some line) = Some line ∷ (Some line ∷ [])

-- the lines of the commands that carry out what is left after that many touches: first the tool and the frame are selected again
abbrev pub command_lines_of : ℕ → List TaskLine → List (Option ℕ)
command_lines_of touches tasks = tool_again (tool_line None (up_to_touch touches tasks))
    ++ (frame_again (frame_line None (up_to_touch touches tasks)) ++ flat_map lines_of (after_touch touches tasks))
