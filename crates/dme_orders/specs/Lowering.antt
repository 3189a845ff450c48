-- What lowering a program leaves (this profile).
use Rattle.std.specs.Prelude.{◌≡◌, ℕ, List, Option, Result, Err}
use Rattle.tool_rack.specs.Setups.{SetupValue}
use Rattle.dmis_program.specs.declared.faults.ProgramFault.TheVariants as program
use Rattle.fixed_um.specs.declared.lengths.Point.{Point}
use Rattle.program_review.specs.Reviews.{frames_under}
use Rattle.dme_orders.specs.Input.{InTurn, Named, ReadsNamed, WhyNoNamed}
use Rattle.dme_orders.specs.Orders.{Carries, Went}
use Rattle.dme_orders.specs.Reading.{Came, IsUntouched, Reads, WhyNoText}
use Rattle.order_parts.specs.declared.faults.FilesFault.{FilesFault}
use Rattle.order_parts.specs.declared.faults.FilesFault.TheVariants as fault
use Rattle.order_parts.specs.declared.faults.Role.TheVariants as role
use Rattle.program_lowering.specs.Heads.{Names}
use Rattle.program_lowering.specs.Lowered.{IsLowered}
use Rattle.program_lowering.specs.Lowering.{lowered_meaning}
use Rattle.program_lowering.specs.Prompts.{Answer}
use Rattle.program_lowering.specs.declared.lowering.Lowered.{Lowered}
use Rattle.program_lowering.specs.declared.words.Choices.{Choices}

-- a program was read: the text and the notes are its flat program and what was decided
abbrev pub ReadsFlat : {R : Type 0} → Names → Choices → List Answer → List (List ℕ × Point) → Came R → List ℕ × List ℕ → Type 0
ReadsFlat names choices answers frames r flat = Reads r (λ source. IsLowered names choices answers frames source flat.0 flat.1)

-- why there is none: the program is refused for its own first refusal without what is left out; or it was not read to its end
abbrev pub WhyNoFlat : {R : Type 0} → Choices → List Answer → List (List ℕ × Point) → Came R → FilesFault → Type 0
WhyNoFlat choices answers frames r (fault.Program program.Memory) = ⊥
WhyNoFlat choices answers frames r (fault.Program (program.Refused refusal line)) =
    Reads r (λ source. lowered_meaning frames choices answers source ≡ Err (refusal, line))
WhyNoFlat choices answers frames r given = WhyNoText r role.Program given

-- a setup if one is named, and a flat program with what was decided
pub record LowerInput : Type 0 where
  pub setup : Option SetupValue
  pub flat : List ℕ × List ℕ

module _ {S R : Type 0} (names : Names) (choices : Choices) (answers : List Answer) (s : Named S) (r : Came R) where
  pub record ReadsLower (input : LowerInput) : Type 0 where
    pub said : ReadsNamed s input.setup
    pub accepted : ReadsFlat names choices answers (frames_under input.setup) r input.flat

  abbrev pub WhyNoLower : FilesFault → Type 0
  WhyNoLower = InTurn (ReadsNamed s) (WhyNoNamed s) (IsUntouched r) (λ setup. WhyNoFlat choices answers (frames_under setup) r)

-- the flat program is written, and answered with what was decided
pub record LeavesFlat (input : LowerInput) (flat : Lowered) (text : List ℕ) : Type 0 where
  pub is : text ≡ input.flat.0
  pub answered : (flat.text.items, flat.notes.items) ≡ input.flat

-- the flat program was written, or the order was not carried out
abbrev pub Lowers : {S R W : Type 0} → Names → Choices → List Answer → Named S → Came R → Went W → Result Lowered FilesFault → Type 0
Lowers names choices answers s r w = Carries (ReadsLower names choices answers s r) LeavesFlat w (WhyNoLower names choices answers s r)
