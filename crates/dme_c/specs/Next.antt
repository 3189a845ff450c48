-- What a client sends and measures next, as numbers.
use Rattle.std.specs.Prelude.{◌≡◌, ℕ, ◌+◌, nat_lt, if◌then◌else◌, List, length, Option, None, Some}
use Rattle.fixed_um.specs.Shapes.{Direction}
use Rattle.fixed_um.specs.declared.lengths.Point.{Point}
use Rattle.dme_line.specs.declared.commands.Kind.{Kind}
use Rattle.dme_line.specs.declared.commands.Kind.TheVariants as kind
use Rattle.dme_line.specs.declared.commands.Command.{Command}
use Rattle.dme_line.specs.declared.commands.Command.TheVariants as command
use Rattle.dme_line.specs.Kinds.{kind_of}
use Rattle.protocol_model.specs.Client.{Client}

-- the number of a kind of command
abbrev pub kind_number : Kind → ℕ
kind_number kind.StartSession = 1
kind_number kind.EndSession = 2
kind_number kind.ClearAllErrors = 3
kind_number kind.IsHomed = 4
kind_number kind.Home = 5
kind_number kind.OnPtMeasReport = 6
kind_number kind.GoTo = 7
kind_number kind.PtMeas = 8
kind_number kind.ChangeTool = 9
kind_number kind.SetCsyTransformation = 10
kind_number kind.SetCoordSystem = 11
kind_number kind.AbortE = 12

-- the number of the kind of a command, 0 if there is none
abbrev pub command_number : Option Command → ℕ
command_number None = 0
command_number (Some c) = kind_number (kind_of c)

-- where a command moves or touches
abbrev pub command_place : Option Command → Option Point
command_place (Some (command.GoTo p)) = Some p
command_place (Some (command.PtMeas p d)) = Some p
command_place _ = None

-- the outward normal of a touch, if one is given
abbrev pub command_normal : Option Command → Option Direction
command_normal (Some (command.PtMeas p d)) = d
command_normal _ = None

-- the number, from 1, of the first feature of the program that is not complete, 0 if all are
abbrev pub next_feature : Client → ℕ
next_feature c = if nat_lt (length c.table.tally.features) (length c.program.features) then length c.table.tally.features + 1 else 0
