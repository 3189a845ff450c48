-- What follows from a report of a world.
use Rattle.dme_orders.proofs.Names.{◌≡◌, Err, IfOk, Instruction, IsPlayed, LeavesReport, List, Meaning, Ok, report_text, Result, SetupValue, shown_of}
use Rattle.dme_orders.proofs.Names.{State, World, ℕ}

-- the report of a world to which the instructions lead
pub leaves_report : {V E : Type 0} (result : Result (State × V) E) (items : V → List ℕ) (window : ℕ) (setup : SetupValue)
    (instructions : List Instruction) (program : Meaning) (world : World) → IsPlayed window setup instructions program world
    → IfOk result (λ end. end.0 ≡ world.client.client.state) → IfOk result (λ end. items end.1 ≡ report_text (shown_of world))
    → IfOk result (λ end. LeavesReport window setup instructions program end.0 (items end.1))
leaves_report (Ok end) items window setup instructions program world played stands told =
    record { world = world; played = played; stands = stands; told = told }
leaves_report (Err fault) items window setup instructions program world played stands told = tt
