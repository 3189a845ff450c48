-- The plan of a program as text: the commands of the whole plan on a new connection as lines under tags that are counted up (the lines are
-- those of the I++ DME Interface version 1, the tags this profile's).
use Rattle.std.specs.Prelude.{ℕ, ◌+◌, ◌%◌, Bool, true, false, List, [], ◌∷◌, ◌++◌, length, take, codes}
use Rattle.std.specs.List.{position}
use Rattle.std.specs.Option.{option_map_or}
use Rattle.dme_line.specs.declared.commands.Command.{Command}
use Rattle.dme_line.specs.declared.commands.Command.TheVariants as command
use Rattle.dme_line.specs.declared.tags.Tag.{Tag}
use Rattle.dme_line.specs.declared.tags.Tag.TheVariants.{Std}
use Rattle.dme_line.specs.Written.{written_command}
use Rattle.dmis_program.specs.Meaning.{Meaning}
use Rattle.protocol_model.specs.Plan.{plan}
use Rattle.protocol_model.specs.declared.plans.Planned.{Planned}
use Rattle.protocol_model.specs.declared.plans.Start.TheVariants.{NewConnection}

-- the tag of the command after that many others: from 1 to 9,999, and from 1 again
abbrev pub tag_behind : ℕ → Tag
tag_behind count = Std (count % 9999 + 1)

-- commands after that many others as lines, each ended by LF
abbrev pub lines_behind : ℕ → List Planned → List ℕ
lines_behind count [] = []
lines_behind count (p ∷ ps) = written_command (tag_behind count) p.command ++ (10 ∷ lines_behind (count + 1) ps)

-- a command that touches, and how many commands there are up to the first of these: all if there is none
abbrev pub is_touch : Command → Bool
is_touch (command.PtMeas target direction) = true
is_touch _ = false

abbrev pub count_to_touch : List Planned → ℕ
count_to_touch ps = option_map_or (λ at. at + 1) (position (λ p. is_touch p.command) ps) (length ps)

-- the commands of the plan for what is left after that many features, on a new connection, up to the first touch
abbrev pub first_commands : Meaning → ℕ → List Planned
first_commands program completed = take (count_to_touch (plan program completed NewConnection)) (plan program completed NewConnection)

-- what is added to the line of a command that is not sent to a machine that is homed
abbrev pub homing_mark : Command → List ℕ
homing_mark command.Home = codes ", only if it is not homed; if it is, the tags below are one less"
homing_mark _ = []

-- the line of a command as it is shown before a run, with its end
abbrev pub shown_line : Tag → Command → List ℕ
shown_line tag c = codes "dme:   " ++ (written_command tag c ++ (homing_mark c ++ (10 ∷ [])))

-- the lines of commands after that many others, as they are shown
abbrev pub shown_behind : ℕ → List Planned → List ℕ
shown_behind count [] = []
shown_behind count (p ∷ ps) = shown_line (tag_behind count) p.command ++ shown_behind (count + 1) ps

-- the text of the plan of a program of which nothing is completed
abbrev pub plan_text : Meaning → List ℕ
plan_text program = lines_behind 0 (plan program 0 NewConnection)
