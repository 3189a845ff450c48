-- What reviewing a program leaves (this profile).
use Rattle.std.specs.Prelude.{◌≡◌, ℕ, List, [], Bool, true, false, Option, Some, None, Result, Ok, is_err}
use Rattle.tool_rack.specs.Setups.{SetupValue, setup_of}
use Rattle.dmis_program.specs.Meaning.{program_of}
use Rattle.program_review.specs.Printed.{Names}
use Rattle.program_review.specs.Reviews.{ReviewTexts, IsReport, frames_under}
use Rattle.program_review.specs.declared.printing.FindingForm.{FindingForm}
use Rattle.dme_orders.specs.Input.{Named, InTurn, WhyNoNamed}
use Rattle.dme_orders.specs.Orders.{Went, Carries}
use Rattle.dme_orders.specs.Reading.{Came, came, Reads, IsUntouched, WhyNoText}
use Rattle.order_parts.specs.declared.faults.FilesFault.{FilesFault}
use Rattle.order_parts.specs.declared.faults.Role.TheVariants as role

-- the exit status: 1 if the program is refused, else 0
abbrev pub review_status : Bool → ℕ
review_status true = 1
review_status false = 0

module _ {S : Type 0} (left : S → Option (List ℕ)) (has_failed : S → Bool) where
  -- the setup that is named, with its text; or none, and no text, if none is named
  abbrev pub IsStored : (old new : Option S) → Option SetupValue → List ℕ → Type 0
  IsStored (Some old) (Some new) (Some said) text =
      Reads (came left has_failed old new) (λ told. (setup_of told ≡ Ok said) × (text ≡ told))
  IsStored None None None text = text ≡ []
  IsStored _ _ _ text = ⊥

pub record ReadsStored {S : Type 0} (n : Named S) (read : Option SetupValue × List ℕ) : Type 0 where
  pub is : IsStored n.left n.has_failed n.old n.new read.0 read.1

-- a setup if one is named, and the text of a program
module _ {S R : Type 0} (s : Named S) (r : Came R) where
  pub record ReadsReview (texts : ReviewTexts) : Type 0 where
    pub stored : ReadsStored s (texts.setup, texts.stored)
    pub read : Reads r (λ told. texts.program ≡ told)

  abbrev pub WhyNoReview : FilesFault → Type 0
  WhyNoReview = InTurn (ReadsStored s) (WhyNoNamed s) (IsUntouched r) (λ stored. WhyNoText r role.Program)

-- the report of the review, with the status that goes with the program under the setup's frames
pub record LeavesFindings (form : FindingForm) (names : Names) (texts : ReviewTexts) (status : ℕ) (text : List ℕ) : Type 0 where
  pub report : IsReport form names texts text
  pub status_is : status ≡ review_status (is_err (program_of (frames_under texts.setup) texts.program))

-- findings were written, and the status is the one that goes with the program; or the review was not carried out
abbrev pub Reviews : {S R W : Type 0} → FindingForm → Names → Named S → Came R → Went W → Result ℕ FilesFault → Type 0
Reviews form names s r w = Carries (ReadsReview s r) (LeavesFindings form names) w (WhyNoReview s r)
