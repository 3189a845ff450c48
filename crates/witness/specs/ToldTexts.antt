-- The text of what a server reported, as it is read (this profile): version 1. The lines are those of `witness`.
use Rattle.std.specs.Prelude.{◌≡◌, ◌≢◌, ◌≤◌, ℕ, true, if◌then◌else◌, List, [], ◌∷◌, map, codes, Option, Some, None, ◌-◌, length, slice_get}
use Rattle.std.specs.List.{AllByRecursion, list_all}
use Rattle.std.specs.Option.{option_map_or}
use Rattle.std.specs.Str.{bytes_eq}
use Rattle.fixed_um.specs.Names.{IsName}
use Rattle.fixed_um.specs.declared.frames.Frame.{Frame}
use Rattle.dme_line.specs.Tags.{IsTag}
use Rattle.line_framing.specs.Content.{is_content}
use Rattle.contact_ledger.specs.ContactTexts.{IsWrittenAct}
use Rattle.contact_ledger.specs.Damage.{IsDamaged}
use Rattle.contact_ledger.specs.Fields.{IsOnWire, IsFrame, IsTouch}
use Rattle.contact_ledger.specs.Ledgers.{IsConnection}
use Rattle.contact_ledger.specs.Lines.{whole_lines}
use Rattle.contact_ledger.specs.declared.acts.Act.{Act}
use Rattle.contact_ledger.specs.declared.acts.Act.TheVariants as act
use Rattle.witness.specs.Dialogues.{touched}
use Rattle.witness.specs.Texts.{unknown_field, told_line}
use Rattle.witness.specs.declared.lines.Reported.{Reported}
use Rattle.witness.specs.declared.lines.Reported.TheVariants as reports

-- ---- what can be written

-- a tool that is not known, or the name of one
abbrev pub IsNamed : Option (List ℕ) → Type 0
IsNamed None = Unit {0}
IsNamed (Some tool) = IsName tool

-- a frame that is not known, or one that can be written
abbrev pub IsPlaced : Option Frame → Type 0
IsPlaced None = Unit {0}
IsPlaced (Some frame) = IsFrame frame

-- the bytes of a line of either end: neither CR nor LF
pub record IsLineText (line : List ℕ) : Type 0 where
  pub free : list_all is_content line ≡ true

-- what was reported with names, points, frames, directions, lines and tags that can be written
abbrev pub IsWrittenTold : Reported → Type 0
IsWrittenTold (reports.Did a) = IsWrittenAct a
IsWrittenTold (reports.MovedSomewhere target) = IsOnWire target
IsWrittenTold reports.FramedSomehow = Unit {0}
IsWrittenTold (reports.Touched target dir tool frame point) =
    IsOnWire target × IsTouch dir × IsNamed tool × IsPlaced frame × IsOnWire point
IsWrittenTold (reports.Other side line) = IsLineText line
IsWrittenTold (reports.Unasked line) = IsLineText line
IsWrittenTold (reports.Broken rule tag) = IsTag tag
IsWrittenTold reports.Opened = Unit {0}
IsWrittenTold reports.Left = Unit {0}

-- what was reported that can be written next to the number of its connection
abbrev pub IsWrittenEntry : ℕ × Reported → Type 0
IsWrittenEntry entry = IsConnection entry.0 × IsWrittenTold entry.1

abbrev pub AreWrittenEntries : List (ℕ × Reported) → Type 0
AreWrittenEntries entries = AllByRecursion IsWrittenEntry entries

-- ---- what can be read

-- the tool of an act is not named as a tool is written that is not known
abbrev pub HasNamedTool : Act → Type 0
HasNamedTool (act.HomedIs homed) = Unit {0}
HasNamedTool act.Homed = Unit {0}
HasNamedTool (act.Moved target frame) = Unit {0}
HasNamedTool (act.Changed tool) = Unit {0}
HasNamedTool (act.Framed frame) = Unit {0}
HasNamedTool (act.Contact target dir tool frame point) = tool ≢ unknown_field

-- the tool or the frame of a touch is not known, and its tool is not named so
abbrev pub IsInDoubt : Option (List ℕ) → Option Frame → Type 0
IsInDoubt None frame = Unit {0}
IsInDoubt (Some tool) None = tool ≢ unknown_field
IsInDoubt (Some tool) (Some frame) = ⊥

-- a ? is read as what is not known, never as the name of a tool; a touch with a tool and a frame is a contact
abbrev pub IsReadTold : Reported → Type 0
IsReadTold (reports.Did a) = HasNamedTool a
IsReadTold (reports.MovedSomewhere target) = Unit {0}
IsReadTold reports.FramedSomehow = Unit {0}
IsReadTold (reports.Touched target dir tool frame point) = IsInDoubt tool frame
IsReadTold (reports.Other side line) = Unit {0}
IsReadTold (reports.Unasked line) = Unit {0}
IsReadTold (reports.Broken rule tag) = Unit {0}
IsReadTold reports.Opened = Unit {0}
IsReadTold reports.Left = Unit {0}

-- what was reported that a line can be read as
abbrev pub IsToldEntry : ℕ × Reported → Type 0
IsToldEntry entry = IsWrittenEntry entry × IsReadTold entry.1

abbrev pub AreToldEntries : List (ℕ × Reported) → Type 0
AreToldEntries entries = AllByRecursion IsToldEntry entries

-- ---- a text

-- no connection's number is less than the one before it
abbrev pub NeverFall : List (ℕ × Reported) → Type 0
NeverFall [] = Unit {0}
NeverFall (entry ∷ []) = Unit {0}
NeverFall (entry ∷ next ∷ entries) = (entry.0 ≤ next.0) × NeverFall (next ∷ entries)

-- the number of the last connection, 0 if there is none
abbrev pub last_number : List (ℕ × Reported) → ℕ
last_number entries = option_map_or (λ entry. entry.0) (slice_get entries (length entries - 1)) 0

-- the lines of what was reported
abbrev pub told_file_lines : List (ℕ × Reported) → List (List ℕ)
told_file_lines entries = codes "DME-TOLD 1" ∷ map told_line entries

-- whole lines say this: a header and a line for each, whose numbers never fall, or there is no line
pub data AreToldLines (lines : List (List ℕ)) (entries : List (ℕ × Reported)) : Type 0 where
  none : lines ≡ [] → entries ≡ [] → AreToldLines lines entries
  some : AreToldEntries entries → NeverFall entries → lines ≡ told_file_lines entries → AreToldLines lines entries

-- a text says this; what follows its last LF is not examined
abbrev pub IsToldText : List ℕ → List (ℕ × Reported) → Type 0
IsToldText bytes entries = AreToldLines (whole_lines bytes) entries

-- line n of a text is the first that is unexpected
abbrev pub IsDamagedTold : List ℕ → ℕ → Type 0
IsDamagedTold bytes n = IsDamaged (λ lines. (entries : List (ℕ × Reported)) × AreToldLines lines entries) (whole_lines bytes) n

-- ---- reading back

-- a tool as it is read from its field
abbrev pub read_tool : List ℕ → Option (List ℕ)
read_tool tool = if bytes_eq tool unknown_field then None else Some tool

-- likewise for a tool that need not be known
abbrev pub read_known_tool : Option (List ℕ) → Option (List ℕ)
read_known_tool None = None
read_known_tool (Some tool) = read_tool tool

-- an act as it is read from its line
abbrev pub read_act : Act → Reported
read_act (act.HomedIs homed) = reports.Did (act.HomedIs homed)
read_act act.Homed = reports.Did act.Homed
read_act (act.Moved target frame) = reports.Did (act.Moved target frame)
read_act (act.Changed tool) = reports.Did (act.Changed tool)
read_act (act.Framed frame) = reports.Did (act.Framed frame)
read_act (act.Contact target dir tool frame point) = touched (read_tool tool) (Some frame) target dir point

-- what was reported as it is read from its line: a tool of the name ? is not known
abbrev pub read_back : Reported → Reported
read_back (reports.Did a) = read_act a
read_back (reports.Touched target dir tool frame point) = touched (read_known_tool tool) frame target dir point
read_back other = other

abbrev pub entry_back : ℕ × Reported → ℕ × Reported
entry_back entry = (entry.0, read_back entry.1)
