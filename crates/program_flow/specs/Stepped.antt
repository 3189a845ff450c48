-- One turn, as the code takes it: no public clause cites it.
use Rattle.std.specs.Prelude.{◌≡◌, ℕ, List, [], ◌∷◌, codes, drop, Option, Some, None}
use Rattle.dmis_text.specs.declared.elements.Statement.{Statement}
use Rattle.program_flow.specs.Calls.{Frame, Step}
use Rattle.program_flow.specs.Calls.Step.{Ends, Stops, Passes, Gives}
use Rattle.program_flow.specs.Left.{IsGiven, Left, frames_of}
use Rattle.program_flow.specs.Named.{IsNext, seen_call, top_to}
use Rattle.program_flow.specs.declared.flow.Stepped.{Stepped}
use Rattle.program_flow.specs.declared.flow.Stepped.TheVariants as code
use Rattle.program_flow.specs.declared.calls.Outcome.{Outcome}
use Rattle.program_flow.specs.declared.calls.Outcome.TheVariants as led
use Rattle.program_flow.specs.declared.flow.Given.TheVariants.{Made}

-- what the code finds at the next statement of the innermost frame is what follows there
abbrev pub Leads : List Frame → Outcome → Step → Type 0
Leads frames led.Ends due = due ≡ Ends
Leads frames led.Leaves due = (f g : Frame) × (outer : List Frame) × (frames ≡ f ∷ (g ∷ outer)) × (due ≡ Passes (g ∷ outer))
Leads frames led.Stops due = (s : Statement) × IsNext frames s × (due ≡ Stops s)
Leads frames (led.Passes move) due = due ≡ Passes (top_to move frames)
Leads frames (led.Gives move) due = (s : Statement) × IsNext frames s × (due ≡ Gives s (top_to move frames))
Leads frames (led.Assigns line text move) due = (s : Statement) × IsGiven [] (Made line text) s × (due ≡ Gives s (top_to move frames))
Leads frames (led.Enters call move) due = due ≡ Passes (seen_call call ∷ top_to move frames)

-- no statement is left
pub record HasEnded (l : Left) : Type 0 where
  pub calls : l.calls ≡ []
  pub outside : drop l.control.place l.outside ≡ []

-- what comes out where no turn is left: on the line of the next statement, or nothing
abbrev pub ended_on : Option ℕ → List Statement
ended_on None = []
ended_on (Some line) = record { line = line; label = None; word = codes "ENDDO"; params = [] } ∷ []

abbrev pub Steps : Stepped → Left → Step → Type 0
Steps code.Ends new due = due ≡ Ends
Steps code.Passes new due = due ≡ Passes (frames_of new)
Steps (code.Gives given) new due = (s : Statement) × IsGiven new.outside given s
    × (due ≡ Gives s (frames_of new))
Steps (code.Stops given) new due = (s : Statement) × IsGiven new.outside given s × (due ≡ Stops s) × HasEnded new
