-- What the page of a record's part leaves (this profile).
use Rattle.std.specs.Prelude.{◌⊎◌, ◌==◌, ◌≡◌, ◌++◌, ℕ, List, codes, Option, Some, None, unwrap_or, Result}
use Rattle.std.specs.List.{AllZip, flat_map}
use Rattle.contact_ledger.specs.Ledgers.{contact_count}
use Rattle.contact_ledger.specs.declared.acts.Act.{Act}
use Rattle.contact_ledger.specs.declared.features.Feature.{Feature}
use Rattle.deviations.specs.Rows.{Row, IsRow, places_of}
use Rattle.dmis_program.specs.Meaning.{Meaning}
use Rattle.deviations.specs.declared.entries.Limit.{Limit}
use Rattle.drawings.specs.Pages.{PageFacts, IsPage}
use Rattle.record_text.specs.declared.seals.SealVerdict.{SealVerdict}
use Rattle.record_text.specs.Records.{Recorded}
use Rattle.dme_orders.specs.Attempts.{attempt_lines}
use Rattle.dme_orders.specs.Auditing.{IsVerdict}
use Rattle.dme_orders.specs.Verdicts.{verdict_status, verdict_text}
use Rattle.ledger_audit.specs.declared.verdicts.Verdict.{Verdict}
use Rattle.dme_orders.specs.Input.{Named, JudgedInput, ReadsJudged, WhyNoneHeld, AreUntouched, Limited, ReadsLimited, WhyNoLimited}
use Rattle.dme_orders.specs.Missing.{IsMissing}
use Rattle.dme_orders.specs.Named.{shown_name, time_in}
use Rattle.dme_orders.specs.OfRecords.{IsOtherProgram, HoldsOthers}
use Rattle.dme_orders.specs.Orders.{Went, Carries}
use Rattle.dme_orders.specs.Reading.{Came}
use Rattle.dme_orders.specs.Recorded.{IsOfProgram, features_in, told_in}
use Rattle.dme_orders.specs.RunErrors.{errors_in, error_line}
use Rattle.dme_orders.specs.RunNotes.{notes_in, note_line}
use Rattle.dme_orders.specs.declared.missing.Missing.{Missing}
use Rattle.order_parts.specs.declared.faults.FilesFault.{FilesFault}

-- the part that a record names, or that it names none
abbrev pub part_in : Option Recorded → List ℕ
part_in None = codes "(not named)"
part_in (Some held) = unwrap_or held.part (codes "(not named)")

-- what a page says besides its points, of a part, the name of its program, when it was complete, the lines of the server's errors and of other notes, the
-- digits of its SHA-256, what the seals say, and the status and the line of the audit
abbrev pub facts_of : (part name time errors notes digest : List ℕ) → SealVerdict → ℕ → List ℕ → PageFacts
facts_of part name time errors notes digest seals status verdict = record {
  part = part;
  program = name;
  time = time;
  seals = seals;
  sound = status == 0;
  verdict = verdict;
  errors = errors;
  notes = notes;
  digest = digest;
}

-- a status and a line of an audit, and the lines of discarded attempts by the same audit
pub record Judges (program : Meaning) (features : List Feature) (told : List (ℕ × Act)) (status : ℕ) (line attempts : List ℕ) : Type 0 where
  pub verdict : Verdict
  pub holds : IsVerdict program.features features told verdict
  pub stands : status ≡ verdict_status verdict
  pub line_is : line ≡ verdict_text features verdict
  pub given_up : attempts ≡ attempt_lines (contact_count told) program.features features verdict

-- the page of features, with the rows that are theirs and the audit of them by acts; what it notes ends with the discarded attempts
pub record IsPageOf (part name time errors notes digest : List ℕ) (seals : SealVerdict) (limits : Option (List Limit)) (program : Meaning) (features : List Feature)
    (told : List (ℕ × Act)) (text : List ℕ) : Type 0 where
  pub rows : List Row
  pub are : AllZip IsRow (places_of program.features features) rows
  pub status : ℕ
  pub verdict : List ℕ
  pub attempts : List ℕ
  pub judges : Judges program features told status verdict attempts
  pub is : IsPage (facts_of part name time errors (notes ++ attempts) digest seals status verdict) program features limits rows text

-- the record is of the program, this is the page of its part, and these features are missing
pub record LeavesPage (name : List ℕ) (read : Limited JudgedInput) (missing : Missing) (text : List ℕ) : Type 0 where
  pub same : IsOfProgram read.input.files.held read.input.files.program
  pub is : IsPageOf (part_in read.input.files.held) (shown_name name) (time_in read.input.files.held)
      (flat_map error_line (errors_in read.input.files.held))
      (flat_map note_line (notes_in read.input.files.held)) read.input.digest read.input.seals read.limits read.input.files.program
      (features_in read.input.files.held) (told_in read.input.files.held) text
  pub lacks : IsMissing read.input.files.program.features (features_in read.input.files.held) missing

module _ {S J R W : Type 0} (s : Named S) (j : Came J) (r : Came R) (w : Went W) where
  -- the page was written, or it was not: a file is blamed, or the record is of another program, or has other features
  abbrev pub ReportsRecord : {L : Type 0} → Named L → List ℕ → Option (List ℕ) → Result Missing FilesFault → Type 0
  ReportsRecord l name key = Carries (ReadsLimited l (ReadsJudged s j r key)) (LeavesPage name) w
      (λ cause. WhyNoLimited l (AreUntouched s j r) (WhyNoneHeld s j r) cause ⊎ (IsOtherProgram s j r w cause ⊎ HoldsOthers s j r w cause))
