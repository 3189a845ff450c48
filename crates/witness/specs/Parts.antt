-- What a line that is no act's is cut into (this profile). No public contract cites these definitions.
use Rattle.std.specs.Prelude.{◌≢◌, List, ◌∷◌, ℕ, codes, Option, Some, None}
use Rattle.dme_line.specs.Tags.{IsTag}
use Rattle.contact_ledger.specs.Fields.{IsOnWire, IsTouch}
use Rattle.contact_ledger.specs.Lines.{fields_of}
use Rattle.witness.specs.Texts.{unknown_field, side_field, told_fields}
use Rattle.witness.specs.declared.lines.Reported.{Reported}
use Rattle.witness.specs.declared.lines.Reported.TheVariants as reports
use Rattle.witness.specs.ToldTexts.{IsNamed, IsPlaced, IsLineText, IsInDoubt}

-- what was reported other than acts whose tool and frame are known, that a line can be read as
abbrev pub IsOtherTold : Reported → Type 0
IsOtherTold (reports.Did a) = ⊥
IsOtherTold (reports.MovedSomewhere target) = IsOnWire target
IsOtherTold reports.FramedSomehow = Unit {0}
IsOtherTold (reports.Touched target dir tool frame point) =
    IsOnWire target × IsTouch dir × IsNamed tool × IsPlaced frame × IsOnWire point × IsInDoubt tool frame
IsOtherTold (reports.Other side line) = IsLineText line
IsOtherTold (reports.Unasked line) = IsLineText line
IsOtherTold (reports.Broken rule tag) = IsTag tag
IsOtherTold reports.Opened = Unit {0}
IsOtherTold reports.Left = Unit {0}

-- what is between the spaces of its line, after the number of the connection: a line of another maker has spaces of its own
abbrev pub told_parts : Reported → List (List ℕ)
told_parts (reports.Other side line) = codes "OTHER" ∷ side_field side ∷ fields_of line
told_parts (reports.Unasked line) = codes "UNASKED" ∷ fields_of line
told_parts (reports.Did a) = told_fields (reports.Did a)
told_parts (reports.MovedSomewhere target) = told_fields (reports.MovedSomewhere target)
told_parts reports.FramedSomehow = told_fields reports.FramedSomehow
told_parts (reports.Touched target dir tool frame point) = told_fields (reports.Touched target dir tool frame point)
told_parts (reports.Broken rule tag) = told_fields (reports.Broken rule tag)
told_parts reports.Opened = told_fields reports.Opened
told_parts reports.Left = told_fields reports.Left

-- the name of a tool that is not written like one that is not known
abbrev pub IsToolName : Option (List ℕ) → Type 0
IsToolName None = Unit {0}
IsToolName (Some tool) = tool ≢ unknown_field
