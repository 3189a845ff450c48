-- What the bytes of a record give the client that continues it, and why they are refused (this profile).
use Rattle.std.specs.Prelude.{◌≡◌, ◌-◌, ℕ, List, Option}
use Rattle.dmis_program.specs.Meaning.{Meaning}
use Rattle.dmis_program.specs.declared.features.Wanted.{Wanted}
use Rattle.protocol_model.specs.Ends.{ClientEnd, new_client_end}
use Rattle.record_text.specs.Beginnings.{BeginsWith, RefusesRun}
use Rattle.record_text.specs.declared.opening.Beginning.{Beginning}
use Rattle.record_text.specs.declared.opening.RecordRefusal.{RecordRefusal}
use Rattle.record_text.specs.declared.opening.RecordRefusal.TheVariants as refusal
use Rattle.dme_c.specs.Beginning.{Asks, part_of}
use Rattle.dme_c.specs.Recordings.{RecordValue}
use Rattle.dme_c.specs.declared.record_making.NotBegun.{NotBegun}
use Rattle.dme_c.specs.declared.record_making.NotBegun.TheVariants as not_begun

-- the bytes are a record that is continued, or not one yet: the client has the features that they complete, the next connection is one
-- above their last, and that many of them are whole lines
pub record ContinuesBytes (setup program part bytes : List ℕ) (window held : ℕ) (client : ClientEnd) (record_is : RecordValue) : Type 0
  where
    pub meaning : Meaning
    pub asks : Asks setup program part meaning
    pub beginning : Beginning
    pub begins : BeginsWith (part_of part) meaning.features bytes beginning
    pub client_is : client ≡ new_client_end meaning beginning.features window
    pub on_is : record_is.on ≡ beginning.connection - 1
    pub held_is : held ≡ beginning.held

-- the texts and the part are accepted, and the bytes are refused for this
pub record RefusesBytes (setup program part bytes : List ℕ) (why : RecordRefusal) : Type 0 where
  pub meaning : Meaning
  pub asks : Asks setup program part meaning
  pub refuses : RefusesRun (part_of part) meaning.features bytes why

-- if nothing is made for the bytes, they are refused for that
abbrev pub IsDueFor : Option (List ℕ) → List Wanted → List ℕ → NotBegun → Type 0
IsDueFor part wanted bytes (not_begun.Damaged line) = RefusesRun part wanted bytes (refusal.Damaged line)
IsDueFor part wanted bytes not_begun.OtherPart = RefusesRun part wanted bytes refusal.OtherPart
IsDueFor part wanted bytes (not_begun.OtherProgram label) = RefusesRun part wanted bytes (refusal.OtherProgram label)
IsDueFor part wanted bytes _ = Unit {0}

abbrev pub IsDue : List ℕ → List ℕ → List ℕ → List ℕ → NotBegun → Type 0
IsDue setup program part bytes (not_begun.Damaged line) = RefusesBytes setup program part bytes (refusal.Damaged line)
IsDue setup program part bytes not_begun.OtherPart = RefusesBytes setup program part bytes refusal.OtherPart
IsDue setup program part bytes (not_begun.OtherProgram label) = RefusesBytes setup program part bytes (refusal.OtherProgram label)
IsDue setup program part bytes _ = Unit {0}

-- the bytes are not why nothing is made
abbrev pub IsOfTexts : NotBegun → Type 0
IsOfTexts (not_begun.Damaged line) = ⊥
IsOfTexts not_begun.OtherPart = ⊥
IsOfTexts (not_begun.OtherProgram label) = ⊥
IsOfTexts _ = Unit {0}
