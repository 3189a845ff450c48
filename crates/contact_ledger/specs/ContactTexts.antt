-- The text of a ledger of acts (this profile), version 1.
use Rattle.std.specs.Prelude.{◌≡◌, ℕ, List, [], ◌∷◌, ◌++◌, map, codes, decimal, Bool, true, false}
use Rattle.std.specs.List.{AllByRecursion}
use Rattle.fixed_um.specs.Names.{IsName}
use Rattle.contact_ledger.specs.Ledgers.{IsConnection}
use Rattle.contact_ledger.specs.Lines.{text_of, whole_lines, line_of}
use Rattle.contact_ledger.specs.Fields.{IsOnWire, IsFrame, IsTouch, point_fields, frame_fields, direction_fields}
use Rattle.contact_ledger.specs.Damage.{IsDamaged}
use Rattle.contact_ledger.specs.declared.acts.Act.{Act}
use Rattle.contact_ledger.specs.declared.acts.Act.TheVariants as act

-- an act whose names, points, frames and directions can be written
abbrev pub IsWrittenAct : Act → Type 0
IsWrittenAct (act.HomedIs homed) = Unit {0}
IsWrittenAct act.Homed = Unit {0}
IsWrittenAct (act.Moved target frame) = IsOnWire target × IsFrame frame
IsWrittenAct (act.Changed tool) = IsName tool
IsWrittenAct (act.Framed frame) = IsFrame frame
IsWrittenAct (act.Contact target dir tool frame point) = IsOnWire target × IsTouch dir × IsName tool × IsFrame frame × IsOnWire point

-- an act that can be written next to the number of its connection
abbrev pub IsEntry : ℕ × Act → Type 0
IsEntry entry = IsConnection entry.0 × IsWrittenAct entry.1

abbrev pub AreEntries : List (ℕ × Act) → Type 0
AreEntries entries = AllByRecursion IsEntry entries

-- 0 or 1
abbrev pub homed_field : Bool → List ℕ
homed_field true = codes "1"
homed_field false = codes "0"

-- the fields of an act after the number of its connection
abbrev pub act_fields : Act → List (List ℕ)
act_fields (act.HomedIs homed) = codes "HOMEDIS" ∷ homed_field homed ∷ []
act_fields act.Homed = codes "HOMED" ∷ []
act_fields (act.Moved target frame) = codes "MOVED" ∷ (point_fields target ++ frame_fields frame)
act_fields (act.Changed tool) = codes "CHANGED" ∷ tool ∷ []
act_fields (act.Framed frame) = codes "FRAMED" ∷ frame_fields frame
act_fields (act.Contact target dir tool frame point) = codes "CONTACT"
    ∷ (point_fields target ++ (direction_fields dir ++ (tool ∷ (frame_fields frame ++ point_fields point))))

-- the line of an act
abbrev pub act_line : ℕ × Act → List ℕ
act_line entry = line_of (decimal entry.0 ∷ act_fields entry.1)

-- the lines of a ledger
abbrev pub contact_lines : List (ℕ × Act) → List (List ℕ)
contact_lines entries = codes "DME-CONTACTS 1" ∷ map act_line entries

-- the text of a ledger
abbrev pub contacts_text : List (ℕ × Act) → List ℕ
contacts_text entries = text_of (contact_lines entries)

-- whole lines say these acts: a header and their lines, or there is no line
pub data AreContactLines (lines : List (List ℕ)) (entries : List (ℕ × Act)) : Type 0 where
  none : lines ≡ [] → entries ≡ [] → AreContactLines lines entries
  some : AreEntries entries → lines ≡ contact_lines entries → AreContactLines lines entries

-- a text says these acts; what follows its last LF is not examined
abbrev pub IsContacts : List ℕ → List (ℕ × Act) → Type 0
IsContacts bytes entries = AreContactLines (whole_lines bytes) entries

-- line n of a text is the first that is unexpected
abbrev pub IsDamagedContacts : List ℕ → ℕ → Type 0
IsDamagedContacts bytes n = IsDamaged (λ lines. (entries : List (ℕ × Act)) × AreContactLines lines entries) (whole_lines bytes) n
