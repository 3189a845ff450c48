-- What auditing files leaves (this profile).
use Rattle.std.specs.Prelude.{◌≡◌, ℕ, List, Result}
use Rattle.contact_ledger.specs.declared.acts.Act.{Act}
use Rattle.contact_ledger.specs.declared.features.Feature.{Feature}
use Rattle.dmis_program.specs.Meaning.{Meaning}
use Rattle.dmis_program.specs.declared.features.Wanted.{Wanted}
use Rattle.protocol_model.specs.Claims.{contacts, AreRuns}
use Rattle.ledger_audit.specs.Verdicts.{AreLeast, AreFewestUnsound, IfStarts, IfNoRun}
use Rattle.ledger_audit.specs.declared.verdicts.Verdict.{Verdict}
use Rattle.dme_orders.specs.Input.{ReadsAudit, WhyNoAudit}
use Rattle.dme_orders.specs.Orders.{Went, Carries}
use Rattle.dme_orders.specs.Reading.{Came}
use Rattle.dme_orders.specs.Verdicts.{verdict_status, verdict_text}
use Rattle.order_parts.specs.declared.faults.FilesFault.{FilesFault}

-- a verdict on features and a ledger: the least starts of runs, or the fewest first features that have none
pub record IsVerdict (wanted : List Wanted) (features : List Feature) (ledger : List (ℕ × Act)) (verdict : Verdict) : Type 0 where
  pub runs : IfStarts verdict (λ starts. AreRuns wanted features starts 0 (contacts ledger))
  pub least : IfStarts verdict (AreLeast wanted features (contacts ledger))
  pub no_run : IfNoRun verdict (AreFewestUnsound wanted features ledger)

-- a text is the line of such a verdict, and a status the one that goes with it
pub record LeavesVerdict (program : Meaning) (features : List Feature) (ledger : List (ℕ × Act)) (status : ℕ) (text : List ℕ) : Type 0
  where
    pub verdict : Verdict
    pub holds : IsVerdict program.features features ledger verdict
    pub stands : status ≡ verdict_status verdict
    pub told : text ≡ verdict_text features verdict

-- the line of the verdict was written, and the status is the one that goes with it, or the audit was not carried out
abbrev pub Audits : {S F C R W : Type 0} → Came S → Came F → Came C → Came R → Went W → Result ℕ FilesFault → Type 0
Audits s f c r w = Carries (ReadsAudit s f c r) (λ input. LeavesVerdict input.program input.features input.ledger) w (WhyNoAudit s f c r)
