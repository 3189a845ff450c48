-- A record counts, or why it does not.
use Rattle.std.proofs.Common.{ℕ, List, Option, Result, Ok, Err, IfErr, inl, inr}
use Rattle.std.specs.Prelude.{OnOk}
use Rattle.dme_orders.specs.Exporting.{RefusesFeatures}
use Rattle.dme_orders.specs.OfRecords.{RefusesRecord}
use Rattle.dme_orders.specs.Reading.{Came, IsSealed, Reads, ReadsRecord}
use Rattle.dme_orders.specs.Recorded.{IsOfProgram, features_in}
use Rattle.dmis_program.specs.Meaning.{Meaning}
use Rattle.order_parts.specs.declared.faults.FilesFault.{FilesFault}
use Rattle.record_text.specs.Records.{Recorded}
use Rattle.part_summary.specs.Batches.{Adds, Counts, Summed, WhyNotCounted}

module _ {S : Type 0} (j : Came S) (held : Option Recorded) where
  pub counts : {A : Type 0} (file : List ℕ) (old new : Summed) (result : Result A FilesFault) → ReadsRecord j held
      → Reads j (IsSealed old.key) → IsOfProgram held old.program → OnOk result (Adds file held old new) → OnOk result (Counts j file old new)
  counts file old new (Ok done) read sealed same adds = record { held = held; read = read; sealed = sealed; same = same; adds = adds }
  counts file old new (Err cause) read sealed same adds = tt

  pub not_first : {A : Type 0} (key : Option (List ℕ)) (program : Meaning) (result : Result A FilesFault) → ReadsRecord j held
      → IfErr result (RefusesFeatures program (features_in held)) → IfErr result (WhyNotCounted j key program)
  not_first key program (Ok done) read why = tt
  not_first key program (Err cause) read why = inr (record { held = held; read = read; why = inr why })

  pub stranger : (key : Option (List ℕ)) (program : Meaning) (cause : FilesFault) → ReadsRecord j held → RefusesRecord held program cause
      → WhyNotCounted j key program cause
  stranger key program cause read why = inr (record { held = held; read = read; why = inl why })
