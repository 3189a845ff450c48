-- What is due for the texts and the record of which a client is made, apart from running out of memory (this profile).
use Rattle.std.specs.Prelude.{◌≡◌, ◌≢◌, ◌⊎◌, ◌≤◌, ℕ, false, true, List, [], ◌∷◌, length, Option, None, Some}
use Rattle.fixed_um.specs.Names.{IsName}
use Rattle.contact_ledger.specs.Lines.{text_of}
use Rattle.contact_ledger.specs.declared.acts.Act.{Act}
use Rattle.contact_ledger.specs.declared.features.Feature.{Feature}
use Rattle.dmis_program.specs.Meaning.{Meaning}
use Rattle.record_text.specs.Heads.{IsPartGiven, head_lines}
use Rattle.record_text.specs.declared.versions.Version.TheVariants.{Second}
use Rattle.client_core.specs.Clients.{is_window}
use Rattle.protocol_model.specs.Claims.{Sound}
use Rattle.protocol_model.specs.Ends.{ClientEnd, new_client_end}
use Rattle.dme_c.specs.Making.{IsBadSetup, IsBadProgram, Means}
use Rattle.dme_c.specs.Recordings.{RecordValue}
use Rattle.dme_c.specs.declared.record_making.NotBegun.{NotBegun}
use Rattle.dme_c.specs.declared.record_making.NotBegun.TheVariants as not_begun

-- no part if the text is empty
abbrev pub part_of : List ℕ → Option (List ℕ)
part_of [] = None
part_of (b ∷ bytes) = Some (b ∷ bytes)

-- setup and program are read, the program means this, and the part may be one
pub record Asks (setup program part : List ℕ) (meaning : Meaning) : Type 0 where
  pub program_is : Means setup program meaning
  pub part_is : IsPartGiven (part_of part)

-- setup and program are read; the part cannot be one
pub record IsBadPart (setup program part : List ℕ) : Type 0 where
  pub meaning : Meaning
  pub program_is : Means setup program meaning
  pub refused : IsPartGiven (part_of part) → ⊥

-- setup, program and part are accepted; the window is not from 1 to 16
pub record IsNoWindow (setup program part : List ℕ) (window : ℕ) : Type 0 where
  pub meaning : Meaning
  pub asks : Asks setup program part meaning
  pub outside : is_window window ≡ false

-- nothing is refused but perhaps the record
pub record IsAsked (setup program part : List ℕ) (window : ℕ) : Type 0 where
  pub meaning : Meaning
  pub asks : Asks setup program part meaning
  pub window_is : is_window window ≡ true

-- a client of this program that has features which are sound for acts that a record says a server reported, and its record, of which that
-- many bytes are in the caller's file: if there are none, the lines of the head wait to be taken
pub record IsBegun (setup program part : List ℕ) (window held : ℕ) (client : ClientEnd) (record_is : RecordValue) : Type 0 where
  pub meaning : Meaning
  pub asks : Asks setup program part meaning
  pub window_is : is_window window ≡ true
  pub kept : List Feature
  pub told : List (ℕ × Act)
  pub sound : Sound meaning.features kept told
  pub client_is : client ≡ new_client_end meaning kept window
  pub counted_is : record_is.counted ≡ record { features = length kept; points = 0 }
  pub none_told : record_is.told ≡ 0
  pub new : held ≡ 0 → record_is.waiting ≡ text_of (head_lines Second (part_of part) meaning.features)
  pub old : held ≢ 0 → record_is.waiting ≡ []

-- why nothing is made; out of memory says nothing about the texts, and what is refused in a record is said by its crate
abbrev pub IsWhyNot : List ℕ → List ℕ → List ℕ → ℕ → NotBegun → Type 0
IsWhyNot setup program part window not_begun.Memory = Unit {0}
IsWhyNot setup program part window not_begun.BadSetup = IsBadSetup setup
IsWhyNot setup program part window not_begun.BadProgram = IsBadProgram setup program
IsWhyNot setup program part window not_begun.BadPart = IsBadPart setup program part
IsWhyNot setup program part window not_begun.BadWindow = IsNoWindow setup program part window
IsWhyNot setup program part window (not_begun.Damaged line) = IsAsked setup program part window
IsWhyNot setup program part window not_begun.OtherPart = IsAsked setup program part window
IsWhyNot setup program part window (not_begun.OtherProgram label) = IsAsked setup program part window

-- why no record is begun: out of memory, or the record is refused
abbrev pub IsOfRecord : NotBegun → Type 0
IsOfRecord not_begun.Memory = Unit {0}
IsOfRecord (not_begun.Damaged line) = Unit {0}
IsOfRecord not_begun.OtherPart = Unit {0}
IsOfRecord (not_begun.OtherProgram label) = Unit {0}
IsOfRecord _ = ⊥

-- the line that is refused, 0 if none is
abbrev pub line_in : NotBegun → ℕ
line_in (not_begun.Damaged line) = line
line_in _ = 0

-- the label of the feature that differs, empty if none does
abbrev pub label_in : NotBegun → List ℕ
label_in (not_begun.OtherProgram label) = label
label_in _ = []

-- that label is a name
abbrev pub IsLabel : NotBegun → Type 0
IsLabel (not_begun.OtherProgram label) = IsName label
IsLabel _ = Unit {0}

-- the number of the reason why nothing is made
abbrev pub not_begun_number : NotBegun → ℕ
not_begun_number not_begun.Memory = 3
not_begun_number not_begun.BadSetup = 4
not_begun_number not_begun.BadProgram = 5
not_begun_number not_begun.BadPart = 12
not_begun_number not_begun.BadWindow = 7
not_begun_number (not_begun.Damaged line) = 9
not_begun_number not_begun.OtherPart = 10
not_begun_number (not_begun.OtherProgram label) = 11

-- for a call that answered `number`: a record is refused only if nothing before it is
abbrev pub RefusesRecord : List ℕ → List ℕ → List ℕ → ℕ → ℕ → Type 0
RefusesRecord setup program part window number = (9 ≤ number) → (number ≤ 11) → IsAsked setup program part window

-- the numbers with which a call that begins a record may answer
abbrev pub IsNumberOf : ℕ → Type 0
IsNumberOf number = (number ≡ 0) ⊎ (((3 ≤ number) × (number ≤ 5)) ⊎ ((number ≡ 7) ⊎ ((9 ≤ number) × (number ≤ 12))))
