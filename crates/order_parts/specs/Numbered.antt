-- Lines under tags that are counted up, as the code keeps them. No clause of a public function cites this.
use Rattle.std.specs.Prelude.{ℕ, ◌+◌, ◌==◌, List, [], ◌∷◌, ◌++◌, if◌then◌else◌}
use Rattle.dme_line.specs.declared.tags.Tag.TheVariants.{Std}
use Rattle.dme_line.specs.declared.commands.Command.{Command}
use Rattle.dme_line.specs.Written.{written_command}
use Rattle.protocol_model.specs.declared.plans.Planned.{Planned}
use Rattle.order_parts.specs.Plan.{shown_line}

-- the number after another: from 1 to 9,999, and from 1 again
abbrev pub number_behind : ℕ → ℕ
number_behind n = if n == 9999 then 1 else n + 1

-- the line of a command under this number, with its end
abbrev pub line_under : ℕ → Command → List ℕ
line_under n c = written_command (Std n) c ++ 10 ∷ []

-- the lines of commands from this number on, as they are sent
abbrev pub lines_from : ℕ → List Planned → List ℕ
lines_from n [] = []
lines_from n (p ∷ ps) = line_under n p.command ++ lines_from (number_behind n) ps

-- the same, as they are shown before a run
abbrev pub shown_from : ℕ → List Planned → List ℕ
shown_from n [] = []
shown_from n (p ∷ ps) = shown_line (Std n) p.command ++ shown_from (number_behind n) ps

-- the number after the last
abbrev pub number_behind_all : ℕ → List Planned → ℕ
number_behind_all n [] = n
number_behind_all n (p ∷ ps) = number_behind_all (number_behind n) ps
