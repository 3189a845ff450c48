-- The written form of a command line (I++ DME Interface version 1): one space after the tag and after each comma, no other space.
use Rattle.std.specs.Prelude.{ℕ, List, [], ◌∷◌, ◌++◌, Option, Some, None, codes}
use Rattle.fixed_um.specs.Names.{IsName}
use Rattle.fixed_um.specs.Points.{IsInVolume}
use Rattle.fixed_um.specs.Shapes.{Direction, IsDirection}
use Rattle.fixed_um.specs.Written.{written, written_direction}
use Rattle.fixed_um.specs.declared.lengths.Point.{Point}
use Rattle.dme_line.specs.declared.tags.Tag.{Tag}
use Rattle.dme_line.specs.declared.commands.Command.{Command}
use Rattle.dme_line.specs.declared.commands.Command.TheVariants.{StartSession, EndSession, ClearAllErrors, IsHomed, Home, OnPtMeasReport}
use Rattle.dme_line.specs.declared.commands.Command.TheVariants.{GoTo, PtMeas, ChangeTool, SetCsyTransformation, SetCoordSystem, AbortE}
use Rattle.dme_line.specs.Tags.{written_tag}
use Rattle.dme_line.specs.Kinds.{kind_of, kind_name, csy_name, IsTagOf}
use Rattle.dme_line.specs.Words.{quoted}
use Rattle.dme_line.specs.Points.{written_point, IsOnWire}

-- the direction of a touch, if one is given
abbrev pub written_ijk : Option Direction → List ℕ
written_ijk None = []
written_ijk (Some d) = codes ", IJK(" ++ (written_direction d (codes ", ") ++ codes ")")

-- the machine's zero point in part coordinates, with no rotation
abbrev pub written_transformation : Point → List ℕ
written_transformation p = codes "PartCsy, " ++ (written p.x
    ++ (codes ", " ++ (written p.y ++ (codes ", " ++ (written p.z ++ codes ", 0, 0, 0")))))

-- what stands between a command's parentheses
abbrev pub written_arguments : Command → List ℕ
written_arguments StartSession = []
written_arguments EndSession = []
written_arguments ClearAllErrors = []
written_arguments IsHomed = []
written_arguments Home = []
written_arguments OnPtMeasReport = codes "X(), Y(), Z()"
written_arguments (GoTo p) = written_point p
written_arguments (PtMeas p d) = written_point p ++ written_ijk d
written_arguments (ChangeTool n) = quoted n
written_arguments (SetCsyTransformation p) = written_transformation p
written_arguments (SetCoordSystem s) = csy_name s
written_arguments AbortE = []

-- the line of a command, without its end
unfoldable pub written_command : Tag → Command → List ℕ
written_command tag command = written_tag tag ++ (32 ∷ (kind_name (kind_of command) ++ (40 ∷ (written_arguments command ++ codes ")"))))

-- the lengths of a transformation are within the volume limit (this profile)
abbrev pub HasVolumeLengths : Command → Type 0
HasVolumeLengths (SetCsyTransformation p) = IsInVolume p
HasVolumeLengths _ = Unit {0}

-- a direction, if one is given
abbrev pub IsIjk : Option Direction → Type 0
IsIjk None = Unit {0}
IsIjk (Some d) = IsDirection d

-- arguments that can be written: coordinates within the wire limit, lengths of a transformation within the volume limit, directions, names
abbrev pub HasArguments : Command → Type 0
HasArguments (GoTo p) = IsOnWire p
HasArguments (PtMeas p d) = IsOnWire p × IsIjk d
HasArguments (ChangeTool n) = IsName n
HasArguments (SetCsyTransformation p) = IsInVolume p
HasArguments _ = Unit {0}

-- a command that can be written under a tag
pub record IsWritable (tag : Tag) (command : Command) : Type 0 where
  pub tagged : IsTagOf (kind_of command) tag
  pub arguments : HasArguments command
