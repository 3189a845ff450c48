-- The kinds of commands and their names (I++ DME Interface version 1).
use Rattle.std.specs.Prelude.{◌≡◌, ℕ, Bool, true, false, List, codes}
use Rattle.dme_line.specs.declared.tags.Tag.{Tag}
use Rattle.dme_line.specs.declared.commands.Kind.{Kind}
use Rattle.dme_line.specs.declared.commands.Kind.TheVariants as kind
use Rattle.dme_line.specs.declared.commands.Csy.{Csy}
use Rattle.dme_line.specs.declared.commands.Csy.TheVariants.{MachineCsy, PartCsy}
use Rattle.dme_line.specs.declared.commands.Command.{Command}
use Rattle.dme_line.specs.declared.commands.Command.TheVariants as command
use Rattle.dme_line.specs.Tags.{IsNumbered, is_event_tag}

-- a command's kind, without its arguments
abbrev pub kind_of : Command → Kind
kind_of command.StartSession = kind.StartSession
kind_of command.EndSession = kind.EndSession
kind_of command.ClearAllErrors = kind.ClearAllErrors
kind_of command.IsHomed = kind.IsHomed
kind_of command.Home = kind.Home
kind_of command.OnPtMeasReport = kind.OnPtMeasReport
kind_of (command.GoTo p) = kind.GoTo
kind_of (command.PtMeas p d) = kind.PtMeas
kind_of (command.ChangeTool n) = kind.ChangeTool
kind_of (command.SetCsyTransformation p) = kind.SetCsyTransformation
kind_of (command.SetCoordSystem s) = kind.SetCoordSystem
kind_of command.AbortE = kind.AbortE

-- the name of a kind of command, as it is written
abbrev pub kind_name : Kind → List ℕ
kind_name kind.StartSession = codes "StartSession"
kind_name kind.EndSession = codes "EndSession"
kind_name kind.ClearAllErrors = codes "ClearAllErrors"
kind_name kind.IsHomed = codes "IsHomed"
kind_name kind.Home = codes "Home"
kind_name kind.OnPtMeasReport = codes "OnPtMeasReport"
kind_name kind.GoTo = codes "GoTo"
kind_name kind.PtMeas = codes "PtMeas"
kind_name kind.ChangeTool = codes "ChangeTool"
kind_name kind.SetCsyTransformation = codes "SetCsyTransformation"
kind_name kind.SetCoordSystem = codes "SetCoordSystem"
kind_name kind.AbortE = codes "AbortE"

-- the name of a coordinate system, as it is written
abbrev pub csy_name : Csy → List ℕ
csy_name MachineCsy = codes "MachineCsy"
csy_name PartCsy = codes "PartCsy"

-- only an abort is an event command
abbrev pub is_event_kind : Kind → Bool
is_event_kind kind.AbortE = true
is_event_kind _ = false

-- a tag that a command of this kind can have: an event tag for an event command, a standard tag for any other, and not number 0
pub record IsTagOf (kind : Kind) (tag : Tag) : Type 0 where
  pub numbered : IsNumbered tag
  pub sort : is_event_tag tag ≡ is_event_kind kind
