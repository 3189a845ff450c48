-- What is left of a text that is carried out: no public clause cites what the code holds, but what comes out next.
use Rattle.std.specs.Prelude.{◌≡◌, ℕ, ◌+◌, List, [], ◌∷◌, ◌++◌, length, drop, Option, Some, None}
use Rattle.dmis_text.specs.Reading.{text_reading}
use Rattle.dmis_text.specs.declared.elements.Statement.{Statement}
use Rattle.program_flow.specs.Calls.{Frame, given_up_in, trace}
use Rattle.program_flow.specs.Flow.{Control, carried}
use Rattle.program_flow.specs.declared.flow.Given.{Given}
use Rattle.program_flow.specs.declared.flow.Given.TheVariants.{Stated, Made}

-- the statements within macros, the macros that are open, the innermost first, the statements outside and where the flow is there, and how many
-- turns are left
pub record Left : Type 0 where
  pub macros : List Statement
  pub calls : List Frame
  pub outside : List Statement
  pub control : Control
  pub turns : ℕ

abbrev pub frames_of : Left → List Frame
frames_of l = l.calls ++ (record { name = []; statements = l.outside; control = l.control } ∷ [])

-- the statements that still come out, by those that were carried out
abbrev pub left_of : Left → List Statement → List Statement
left_of l above = trace l.turns l.macros (frames_of l) above

-- no more than this many, and fewer after each
abbrev pub size : Left → ℕ
size l = l.turns + l.turns + length (given_up_in (frames_of l))

-- a statement outside macros, or that of a text of its own
abbrev pub IsGiven : List Statement → Given → Statement → Type 0
IsGiven outside (Stated place) s = (below : List Statement) × (drop place outside ≡ s ∷ below)
IsGiven outside (Made line text) s =
    (t : Statement) × (text_reading text.items ≡ record { statements = t ∷ []; fault = None }) × (s ≡ record t { line = line })

-- the next one, or none
abbrev pub GivesNext : Left → Left → List Statement → Option Given → Type 0
GivesNext old new above None = left_of old above ≡ []
GivesNext old new above (Some given) =
    (s : Statement) × IsGiven old.outside given s × (left_of old above ≡ s ∷ left_of new (carried above s))
