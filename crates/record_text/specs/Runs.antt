-- Runs that are recorded in one file, one after another, each killed at any moment (this profile).
use Rattle.std.specs.Prelude.{◌≡◌, ℕ, ◌≤◌, List, ◌++◌, length, take, Option}
use Rattle.contact_ledger.specs.declared.acts.Act.{Act}
use Rattle.contact_ledger.specs.declared.features.Feature.{Feature}
use Rattle.dmis_program.specs.Meaning.{Meaning}
use Rattle.dmis_program.specs.declared.features.Wanted.{Wanted}
use Rattle.protocol_model.specs.Claims.{Sound}
use Rattle.protocol_model.specs.Ends.{new_client_end}
use Rattle.record_text.specs.Reading.{IsRecord}
use Rattle.record_text.specs.Records.{Recorded}
use Rattle.record_text.specs.declared.run_errors.RunError.{RunError}
use Rattle.record_text.specs.declared.run_errors.Remark.{Remark}
use Rattle.record_text.specs.Beginnings.{BeginsWith, IsSame}
use Rattle.record_text.specs.Growths as growths
use Rattle.record_text.specs.declared.opening.Beginning.{Beginning}
use Rattle.record_text.specs.Told.{told_behind}
use Rattle.record_text.specs.Recordings.{Pair, Moment, behind_moments, calls_in, AreFit, AreWritten}

-- a new client of a program, and the record that it continues, as `begin_record` gives them
abbrev pub run_begun : Meaning → ℕ → Beginning → Pair
run_begun p window b = record {
  end = new_client_end p b.features window;
  recording = growths.begun b.connection 0 (length b.features) b.text.items;
}

-- a text is a record of a part and of these wanted features; it says that these features are complete and that these acts were reported
abbrev pub IsRecordOf : Option (List ℕ) → List Wanted → List Feature → List (ℕ × Act) → List ℕ → Type 0
IsRecordOf part wanted features told text = (last : ℕ) × (errors : List RunError) × (notes : List Remark) × IsRecord text (record {
  part = part;
  asked = wanted;
  features = features;
  told = told;
  last = last;
  errors = errors;
  notes = notes;
})

-- a run over a file that has some bytes, killed at any moment, when the file has others: what the run found whole, and a prefix of what it
-- has added since
pub record IsKilledRun (p : Meaning) (part : Option (List ℕ)) (old new : List ℕ) : Type 0 where
  pub begun : Beginning
  pub begins : BeginsWith part p.features old begun
  pub window : ℕ
  pub moments : List Moment
  pub fit : AreFit begun.connection moments (new_client_end p begun.features window)
  pub written : AreWritten (told_behind (calls_in moments) (new_client_end p begun.features window))
  pub count : ℕ
  pub held : begun.held ≤ count
  pub left : new ≡ take count (behind_moments moments (run_begun p window begun)).recording.text

-- any number of them, each over what the one before it has left
pub data AreKilledRuns (p : Meaning) (part : Option (List ℕ)) (old : List ℕ) : List ℕ → Type 0 where
  no_run : AreKilledRuns p part old old
  one_more : (mid new : List ℕ) → AreKilledRuns p part old mid → IsKilledRun p part mid new → AreKilledRuns p part old new

-- a text is a record of a part and of these wanted features whose claim is sound, and it says first what another record says: no feature
-- and no act of that is lost
pub record HasAllOf (part : Option (List ℕ)) (wanted : List Wanted) (r : Recorded) (text : List ℕ) : Type 0 where
  pub says : Recorded
  pub is : IsRecord text says
  pub same : IsSame part wanted says
  pub sound : Sound wanted says.features says.told
  pub features : List Feature
  pub features_are : says.features ≡ r.features ++ features
  pub acts : List (ℕ × Act)
  pub acts_are : says.told ≡ r.told ++ acts
