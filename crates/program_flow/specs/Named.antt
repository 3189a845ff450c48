-- How the code holds parameters, macros and calls: no public clause cites it.
use Rattle.std.specs.Prelude.{◌≡◌, ℕ, ◌+◌, Bool, true, false, not, ◌&&◌, ◌||◌, ◌-◌, nat_lt, List, [], ◌∷◌, ◌++◌, if◌then◌else◌}
use Rattle.dmis_text.specs.declared.elements.Statement.{Statement}
use Rattle.program_flow.specs.Calls.{Frame, next_of}
use Rattle.program_flow.specs.Flow.{Control, to}
use Rattle.program_flow.specs.Macros.{Macro, Pair, begins_macro, comma_before, ends_macro, has_end}
use Rattle.program_flow.specs.Turns.{moved}
use Rattle.program_flow.specs.declared.blocks.Move.{Move}
use Rattle.program_flow.specs.declared.calls.Call as code_call
use Rattle.program_flow.specs.declared.macros.Macro as code_macro
use Rattle.program_flow.specs.declared.macros.Pair as code_pair
use Rattle.program_flow.specs.declared.positions.Position as code_position

abbrev pub seen_pair : code_pair.Pair → Pair
seen_pair p = record { parameter = p.parameter.now; argument = p.argument.now }

abbrev pub seen_macro : code_macro.Macro → Macro
seen_macro m = record { params = m.params.now; body = m.body.now }

abbrev pub seen_position : code_position.Position → Control
seen_position p = to p.place p.blocks.items

abbrev pub frame_at : List ℕ → List Statement → code_position.Position → Frame
frame_at name statements p = record { name = name; statements = statements; control = seen_position p }

abbrev pub seen_call : code_call.Call → Frame
seen_call c = frame_at c.name.items c.lines.items c.position

-- parameters as a text, each after a comma, and the first after this mark
abbrev pub params_after : ℕ → List (List ℕ) → List ℕ
params_after mark [] = []
params_after mark (param ∷ params) = mark ∷ (param ++ comma_before params)

-- ---- the statements within macros, with each MACRO that has its ENDMAC, and that: those that are not outside

unfoldable pub inside_after : Bool → List Statement → List Statement
inside_after within [] = []
inside_after true (s ∷ below) = s ∷ inside_after (not (ends_macro s)) below
inside_after false (s ∷ below) = if begins_macro s && has_end below then s ∷ inside_after true below else inside_after false below

abbrev pub inside : List Statement → List Statement
inside text = inside_after false text

-- how many ENDMACs there are
abbrev pub count_ends : List Statement → ℕ
count_ends [] = 0
count_ends (s ∷ below) = if ends_macro s then count_ends below + 1 else count_ends below

-- whether a statement is within a macro: by whether those above it are, how many ENDMACs are below, and whether it begins one
abbrev pub within_by : Bool → ℕ → Bool → Bool
within_by within ends begins = within || (nat_lt 0 ends && begins)

abbrev pub within_after : Bool → Bool → Bool → Bool
within_after true last inside = not last
within_after false last inside = inside

abbrev pub ends_below : ℕ → Bool → ℕ
ends_below ends true = ends - 1
ends_below ends false = ends

-- ---- what follows at the next statement of the innermost frame

abbrev pub IsNext : List Frame → Statement → Type 0
IsNext frames s = (below : List Statement) × (next_of frames ≡ s ∷ below)

-- the flow moves in that frame
abbrev pub top_to : Move → List Frame → List Frame
top_to move [] = []
top_to move (f ∷ outer) = record f { control = moved f.control.blocks move } ∷ outer
