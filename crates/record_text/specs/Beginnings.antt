-- What a run begins with, by what the file of its record holds (this profile).
use Rattle.std.specs.Prelude.{◌≡◌, ◌⊎◌, ℕ, ◌+◌, ◌==◌, not, true, List, [], ◌∷◌, ◌++◌, length, Option, Result, Ok, Err}
use Rattle.std.specs.List.{list_all}
use Rattle.contact_ledger.specs.Lines.{text_of}
use Rattle.dmis_program.specs.declared.features.Wanted.{Wanted}
use Rattle.record_text.specs.Heads.{head_lines}
use Rattle.record_text.specs.Records.{Recorded}
use Rattle.record_text.specs.Reading.{IsRecord, IsUnbegun, IsDamagedRecord}
use Rattle.record_text.specs.Strangers.{IsFirstOther}
use Rattle.record_text.specs.declared.opening.Beginning.{Beginning}
use Rattle.record_text.specs.declared.opening.RecordRefusal.{RecordRefusal}
use Rattle.record_text.specs.declared.opening.RecordRefusal.TheVariants.{Damaged, OtherPart, OtherProgram, Memory}
use Rattle.record_text.specs.declared.versions.Version.TheVariants.{Second}

-- a text is empty, or ends with a line feed
abbrev pub EndsLine : List ℕ → Type 0
EndsLine text = (text ≡ []) ⊎ ((line : List ℕ) × (text ≡ line ++ 10 ∷ []))

-- the whole lines of a text: all up to its last line feed; what follows is torn
pub record AreWhole (bytes text : List ℕ) : Type 0 where
  pub ends : EndsLine text
  pub torn : List ℕ
  pub parts : text ++ torn ≡ bytes
  pub none : list_all (λ b. not (b == 10)) torn ≡ true

-- a new record of a part and of wanted features, on its first connection
pub record IsNew (part : Option (List ℕ)) (wanted : List Wanted) (b : Beginning) : Type 0 where
  pub features : b.features ≡ []
  pub told : b.told ≡ []
  pub connection : b.connection ≡ 1
  pub text : b.text.items ≡ text_of (head_lines Second part wanted)
  pub held : b.held ≡ 0

-- a record that is continued: its features, its acts, the next connection and its whole lines, all of which the file holds
pub record Continues (bytes : List ℕ) (r : Recorded) (b : Beginning) : Type 0 where
  pub features : b.features ≡ r.features
  pub told : b.told ≡ r.told
  pub connection : b.connection ≡ r.last + 1
  pub text : AreWhole bytes b.text.items
  pub held : b.held ≡ length b.text.items

-- a record is of this part and of these wanted features
pub record IsSame (part : Option (List ℕ)) (wanted : List Wanted) (r : Recorded) : Type 0 where
  pub part_is : r.part ≡ part
  pub asked_is : r.asked ≡ wanted

-- it is of another part; or of this part and of another program, which differs first in the feature of this label
abbrev pub RefusesSame : Option (List ℕ) → List Wanted → Recorded → RecordRefusal → Type 0
RefusesSame part wanted r (Damaged line) = ⊥
RefusesSame part wanted r OtherPart = r.part ≡ part → ⊥
RefusesSame part wanted r (OtherProgram label) = (r.part ≡ part) × IsFirstOther r.asked wanted label
RefusesSame part wanted r Memory = Unit {0}

-- a new record if the bytes are not one yet; or their record is continued
abbrev pub BeginsWith : Option (List ℕ) → List Wanted → List ℕ → Beginning → Type 0
BeginsWith part wanted bytes b = (IsUnbegun bytes × IsNew part wanted b) ⊎ ((r : Recorded) × IsRecord bytes r × IsSame part wanted r × Continues bytes r b)

-- the bytes are refused for what they are: a damaged line, or a record of another part or program; out of memory says nothing of them
abbrev pub RefusesRun : Option (List ℕ) → List Wanted → List ℕ → RecordRefusal → Type 0
RefusesRun part wanted bytes (Damaged line) = IsDamagedRecord bytes line
RefusesRun part wanted bytes OtherPart = (r : Recorded) × IsRecord bytes r × RefusesSame part wanted r OtherPart
RefusesRun part wanted bytes (OtherProgram label) = (r : Recorded) × IsRecord bytes r × RefusesSame part wanted r (OtherProgram label)
RefusesRun part wanted bytes Memory = Unit {0}

-- what a run of a part and of wanted features begins with, or why it may not begin
abbrev pub BeginsRun : Option (List ℕ) → List Wanted → List ℕ → Result Beginning RecordRefusal → Type 0
BeginsRun part wanted bytes (Ok b) = BeginsWith part wanted bytes b
BeginsRun part wanted bytes (Err refusal) = RefusesRun part wanted bytes refusal
