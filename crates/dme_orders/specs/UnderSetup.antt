-- What checking a program leaves, under frames, or under a setup if one is named (this profile).
use Rattle.std.specs.Prelude.{◌≡◌, ℕ, List, Result, Ok, Err}
use Rattle.fixed_um.specs.declared.lengths.Point.{Point}
use Rattle.dme_orders.specs.Checked.{in_files}
use Rattle.dme_orders.specs.Input.{Named, ReadsCheck, WhyNoCheck}
use Rattle.dme_orders.specs.Orders.{Went, Carries}
use Rattle.dme_orders.specs.Reading.{Came, ReadsProgram, WhyNoProgram}
use Rattle.dme_orders.specs.declared.check.CheckFault.{CheckFault}
use Rattle.order_parts.specs.Plan.{plan_text}
use Rattle.order_parts.specs.declared.faults.FilesFault.{FilesFault}

-- a check's answer, as an order over files gives it
abbrev pub over_files : Result (Unit {0}) CheckFault → Result (Unit {0}) FilesFault
over_files (Ok done) = Ok done
over_files (Err cause) = Err (in_files cause)

-- the text of the plan of the program was written, or the check was not carried out
abbrev pub PlansFor : {R W : Type 0} → List (List ℕ × Point) → Came R → Went W → Result (Unit {0}) FilesFault → Type 0
PlansFor frames r w = Carries (ReadsProgram r frames) (λ program done text. text ≡ plan_text program) w (WhyNoProgram r frames)

abbrev pub Plans : {R W : Type 0} → List (List ℕ × Point) → Came R → Went W → Result (Unit {0}) CheckFault → Type 0
Plans frames r w result = PlansFor frames r w (over_files result)

abbrev pub Checks : {S R W : Type 0} → Named S → Came R → Went W → Result (Unit {0}) FilesFault → Type 0
Checks s r w = Carries (ReadsCheck s r) (λ input done text. text ≡ plan_text input.program) w (WhyNoCheck s r)
