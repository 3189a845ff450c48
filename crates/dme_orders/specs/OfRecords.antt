-- What auditing and exporting the record of a run leaves (this profile).
use Rattle.std.specs.Prelude.{◌≡◌, ◌⊎◌, ℕ, List, codes, Option, true, false, Result, string_bytes}
use Rattle.std.specs.List.{flat_map}
use Rattle.client_core.specs.Clients.{are_ours}
use Rattle.contact_ledger.specs.ContactTexts.{contacts_text}
use Rattle.contact_ledger.specs.declared.acts.Act.{Act}
use Rattle.contact_ledger.specs.declared.features.Feature.{Feature}
use Rattle.dmis_program.specs.Meaning.{Meaning}
use Rattle.order_parts.specs.Kept.{IsFeaturesText}
use Rattle.record_text.specs.Records.{Recorded}
use Rattle.dme_orders.specs.Auditing.{LeavesVerdict}
use Rattle.dme_orders.specs.Exporting.{LeavesTable, Compares}
use Rattle.dme_orders.specs.Input.{Named, RecordInput, ReadsHeld, WhyNoneHeld, WhyNoneSealed, AreUntouched, Limited, ReadsLimited, WhyNoLimited}
use Rattle.dme_orders.specs.Missing.{IsMissing}
use Rattle.dme_orders.specs.Named.{of_record, title_of_record}
use Rattle.dme_orders.specs.Orders.{Went, Carries}
use Rattle.dme_orders.specs.Reading.{Came, Reads, IsSealed}
use Rattle.dme_orders.specs.Recorded.{IsOfProgram, DiffersAt, features_in, told_in}
use Rattle.dme_orders.specs.declared.exporting.Exported.{Exported}
use Rattle.deviations.specs.Styles.{TableStyle, style_of}
use Rattle.drawings.specs.Title.{TitleTexts}
use Rattle.deviations.specs.declared.entries.Limit.{Limit}
use Rattle.deviations.specs.declared.styles.TableOptions.{TableOptions}
use Rattle.dme_orders.specs.RunErrors.{errors_in, error_line}
use Rattle.dme_orders.specs.Digests.{part_line}
use Rattle.dme_orders.specs.declared.of_records.RecordNotes.{RecordNotes}
use Rattle.dme_orders.specs.declared.of_records.RecordText.{RecordText}
use Rattle.dme_orders.specs.declared.of_records.RecordText.TheVariants.{Table, Features, Contacts}
use Rattle.order_parts.specs.declared.faults.FilesFault.{FilesFault}
use Rattle.order_parts.specs.declared.faults.FilesFault.TheVariants as files

-- a record is not of a program: this feature differs; or memory ran out
abbrev pub RefusesRecord : Option Recorded → Meaning → FilesFault → Type 0
RefusesRecord held program cause =
    ((label : List ℕ) × (cause ≡ files.OtherProgram label) × DiffersAt held program label) ⊎ (cause ≡ files.Memory)

-- the record is of the program, this is the line of a verdict on its features by its acts, with the status that goes with it, these
-- features are missing, and these lines name the errors in the runs of its features, and its part
pub record LeavesRecordVerdict (input : RecordInput) (end : ℕ × RecordNotes) (text : List ℕ) : Type 0 where
  pub same : IsOfProgram input.held input.program
  pub verdict : LeavesVerdict input.program (features_in input.held) (told_in input.held) end.0 text
  pub lacks : IsMissing input.program.features (features_in input.held) end.1.missing
  pub errors : string_bytes end.1.errors ≡ flat_map error_line (errors_in input.held)
  pub part : string_bytes end.1.part ≡ part_line input.held

-- a text in a form: the table of the features, or the text of a features file, or the text of a contacts file
abbrev pub IsRecordText : RecordText → TableStyle → TitleTexts → Option (List Limit) → Meaning → List Feature → List (ℕ × Act) → List ℕ → Type 0
IsRecordText (Table form) style title limits program features told text = LeavesTable form style title limits program features text
IsRecordText Features style title limits program features told text = (are_ours program.features features ≡ true) × IsFeaturesText features text
IsRecordText Contacts style title limits program features told text = text ≡ contacts_text told

-- the record is of the program, this is its text in a form, these features are missing, and these lines compare the others with limits
pub record LeavesRecordText (form : RecordText) (table : TableOptions) (name : List ℕ) (read : Limited RecordInput) (end : Exported)
    (text : List ℕ) : Type 0 where
  pub same : IsOfProgram read.input.held read.input.program
  pub is : IsRecordText form (style_of table (of_record read.input.held name)) (title_of_record read.input.held name) read.limits
      read.input.program (features_in read.input.held) (told_in read.input.held) text
  pub lacks : IsMissing read.input.program.features (features_in read.input.held) end.missing
  pub compares : Compares read.limits read.input.program (features_in read.input.held) (string_bytes end.compared)

module _ {S J R W : Type 0} (s : Named S) (j : Came J) (r : Came R) (w : Went W) where
  -- all files were read, and the record is not of the program: this feature differs
  pub record IsOtherProgram (cause : FilesFault) : Type 0 where
    pub label : List ℕ
    pub is : cause ≡ files.OtherProgram label
    pub input : RecordInput
    pub read : ReadsHeld s j r input
    pub other : DiffersAt input.held input.program label

  -- all files were read, and the features are not the first ones of the program
  pub record HoldsOthers (cause : FilesFault) : Type 0 where
    pub is : cause ≡ files.NotOurs
    pub input : RecordInput
    pub read : ReadsHeld s j r input
    pub not_ours : are_ours input.program.features (features_in input.held) ≡ false

  -- the line of the verdict was written, or the audit was not carried out: a file is blamed, or the record is of another program. With a
  -- key its seals stand for the whole record
  abbrev pub AuditsRecord : Option (List ℕ) → Result (ℕ × RecordNotes) FilesFault → Type 0
  AuditsRecord key = Carries (λ input. ReadsHeld s j r input × Reads j (IsSealed key)) LeavesRecordVerdict w
      (λ cause. WhyNoneSealed s j r key cause ⊎ IsOtherProgram cause)

  -- the text was written, or the export was not carried out: a file is blamed, or the record is of another program, or has other features
  abbrev pub ExportsRecord : {L : Type 0} → Named L → RecordText → TableOptions → List ℕ → Result Exported FilesFault → Type 0
  ExportsRecord l form table name = Carries (ReadsLimited l (ReadsHeld s j r)) (LeavesRecordText form table name) w
      (λ cause. WhyNoLimited l (AreUntouched s j r) (WhyNoneHeld s j r) cause ⊎ (IsOtherProgram cause ⊎ HoldsOthers cause))
