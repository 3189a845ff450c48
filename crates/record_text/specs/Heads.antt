-- How the record of a run begins (this profile): the part, if one was given, and what was asked. So a record of another part or of
-- another program is recognised.
use Rattle.std.specs.Prelude.{◌≡◌, ℕ, ◌≤◌, Bool, ◌&&◌, true, nat_le, List, [], ◌∷◌, ◌++◌, length, map, codes, decimal, Option, Some, None}
use Rattle.std.specs.List.{AllByRecursion, list_all}
use Rattle.fixed_um.specs.Names.{IsName}
use Rattle.contact_ledger.specs.Lines.{line_of}
use Rattle.contact_ledger.specs.Fields.{IsOnWire, IsFrame, IsTouch, point_fields, frame_fields, direction_fields}
use Rattle.contact_ledger.specs.FeatureTexts.{IsPointCount}
use Rattle.dmis_program.specs.declared.features.Touch.{Touch}
use Rattle.dmis_program.specs.declared.features.Wanted.{Wanted}
use Rattle.record_text.specs.declared.versions.Version.{Version}
use Rattle.record_text.specs.declared.versions.Version.TheVariants.{First, Second}

-- a byte that is printed: from 32 to 126
abbrev pub is_printed : ℕ → Bool
is_printed b = nat_le 32 b && nat_le b 126

-- a text of 1 to `most` such bytes
pub record IsPrinted (most : ℕ) (text : List ℕ) : Type 0 where
  pub some : 1 ≤ length text
  pub few : length text ≤ most
  pub printed : list_all is_printed text ≡ true

-- the name of a part has 1 to 64 of them
abbrev pub IsPart : List ℕ → Type 0
IsPart text = IsPrinted 64 text

-- no part, or one with such a name
abbrev pub IsPartGiven : Option (List ℕ) → Type 0
IsPartGiven None = Unit {0}
IsPartGiven (Some text) = IsPart text

-- a touch whose target, direction, tool and frame can be written
pub record IsAskedTouch (t : Touch) : Type 0 where
  pub target : IsOnWire t.target
  pub dir : IsTouch t.dir
  pub tool : IsName t.tool
  pub frame : IsFrame t.frame

-- a wanted feature that can be written: it has a name, and 1 to 10,000 such touches
pub record IsAsked (w : Wanted) : Type 0 where
  pub label : IsName w.label
  pub counted : IsPointCount (length w.touches)
  pub touches : AllByRecursion IsAskedTouch w.touches

abbrev pub AreAsked : List Wanted → Type 0
AreAsked asked = AllByRecursion IsAsked asked

-- the first line of a record
abbrev pub header : Version → List ℕ
header First = codes "DME-RECORD 1"
header Second = codes "DME-RECORD 2"

-- PART and its name
abbrev pub part_line : List ℕ → List ℕ
part_line text = codes "PART " ++ text

abbrev pub part_lines : Option (List ℕ) → List (List ℕ)
part_lines None = []
part_lines (Some text) = part_line text ∷ []

-- FEATURE, its label, and how many touches follow
abbrev pub feature_line : List ℕ → ℕ → List ℕ
feature_line label count = line_of (codes "FEATURE" ∷ label ∷ decimal count ∷ [])

-- the fields of a touch, which are those of a contact without the point that was reported
abbrev pub touch_fields : Touch → List (List ℕ)
touch_fields t = point_fields t.target ++ (direction_fields t.dir ++ (t.tool ∷ frame_fields t.frame))

abbrev pub touch_line : Touch → List ℕ
touch_line t = line_of (codes "TOUCH" ∷ touch_fields t)

-- the lines of a wanted feature
abbrev pub wanted_lines : Wanted → List (List ℕ)
wanted_lines w = feature_line w.label (length w.touches) ∷ map touch_line w.touches

abbrev pub asked_lines : List Wanted → List (List ℕ)
asked_lines [] = []
asked_lines (w ∷ asked) = wanted_lines w ++ asked_lines asked

-- the lines up to END
abbrev pub head_lines : Version → Option (List ℕ) → List Wanted → List (List ℕ)
head_lines version part asked = header version ∷ (part_lines part ++ (asked_lines asked ++ codes "END" ∷ []))
