-- What is printed of two recordings (this profile).
use Rattle.std.specs.Prelude.{◌≡◌, ◌≢◌, ℕ, Bool, true, false, List, [], take}
use Rattle.witness.specs.declared.lines.Side.TheVariants.{Client, Server}
use Rattle.watched_ends.specs.Pieces.{IsOrder, IsUnfit}
use Rattle.watched_ends.specs.Recorded.{IsRecorded}
use Rattle.watched_ends.specs.declared.recorded.Order as the
use Rattle.watched_ends.specs.declared.recorded.Order.TheVariants as ordered
use Rattle.witness.specs.Judging.{IsJudged}
use Rattle.witness.specs.declared.judgement.Judgement.{Judgement}
use Rattle.witness.specs.Orders.{Pieces, bytes_of, HasFirst}
use Rattle.witness.specs.JudgementTexts.{judgement_text, judgement_status}
use Rattle.watched_ends.specs.declared.jobs.Job.{Job}
use Rattle.watched_ends.specs.declared.jobs.Job.TheVariants.{Ledger, Judge}

-- a text is that of a judgement, and a status the one that goes with it
pub record Shows (j : Judgement) (text : List ℕ) (status : ℕ) : Type 0 where
  pub text_is : text ≡ judgement_text j
  pub status_is : status ≡ judgement_status j

-- likewise of the bytes of recordings that the text of an order has
pub record IsOrderedJudgement (up down bytes text : List ℕ) (status : ℕ) (is_whole : Bool) : Type 0 where
  pub pieces : Pieces
  pub order_is : IsOrder bytes pieces
  pub first : HasFirst up down pieces is_whole
  pub judged : Judgement
  pub holds : IsJudged (take (bytes_of Client pieces) up) (take (bytes_of Server pieces) down) pieces judged
  pub shows : Shows judged text status

-- likewise without a text of the order
pub record IsPlainJudgement (up down bytes text : List ℕ) (status : ℕ) : Type 0 where
  pub none : bytes ≡ []
  pub judged : Judgement
  pub holds : IsJudged up down [] judged
  pub shows : Shows judged text status

abbrev pub IsJudgement : (up down bytes text : List ℕ) → the.Order → ℕ → Type 0
IsJudgement up down bytes text ordered.Whole status = IsOrderedJudgement up down bytes text status true
IsJudgement up down bytes text ordered.Part status = IsOrderedJudgement up down bytes text status false
IsJudgement up down bytes text ordered.Unknown status = IsPlainJudgement up down bytes text status
IsJudgement up down bytes text ordered.NotTheirs status = (text ≡ []) × (bytes ≢ []) × IsUnfit up down bytes

-- the text that is printed, and the exit status
abbrev pub IsAnswer : Job → (up down bytes text : List ℕ) → the.Order → ℕ → Type 0
IsAnswer (Ledger connection) up down bytes text order status = IsRecorded connection up down bytes text order × (status ≡ 0)
IsAnswer Judge up down bytes text order status = IsJudgement up down bytes text order status
