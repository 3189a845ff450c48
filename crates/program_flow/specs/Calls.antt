-- Which statements are carried out where macros are called (ISO 22093, CALL). Each macro that is open, and the text outside macros, has
-- statements of its own, and blocks and labels are those of these statements: so a jump finds no label of another. What is below is left,
-- when no statement of a macro is left, for what called it.
use Rattle.std.specs.Prelude.{ℕ, zero, suc, ◌+◌, Bool, true, false, not, ◌&&◌, ◌||◌, ◌==◌, List, [], ◌∷◌, ◌++◌, length, drop, codes, bytes_eq}
use Rattle.std.specs.Prelude.{is_none, is_some, Option, Some, None, if◌then◌else◌}
use Rattle.std.specs.Fmt.{digits_onto}
use Rattle.std.specs.List.{list_all}
use Rattle.dmis_text.specs.declared.elements.Statement.{Statement}
use Rattle.program_flow.specs.LookBack.{value_said}
use Rattle.program_flow.specs.Values.{Valuation, is_variable}
use Rattle.program_flow.specs.Blocks.{part_of}
use Rattle.program_flow.specs.declared.blocks.Part.{Part}
use Rattle.program_flow.specs.declared.blocks.Part.TheVariants.{If, Select, Jump, Other}
use Rattle.program_flow.specs.Flow as flow
use Rattle.program_flow.specs.Flow.{Control, Turn, carried, given_up, most, to, turn}
use Rattle.program_flow.specs.Macros.{Macro, begins_macro, ends_macro, is_macro_name, all_with_arguments, macro_named, outside, pairs_of, said_by, without_parameters}

-- the statements of a macro, with its arguments in their places, or those outside macros, whose name is empty; and where the flow is there
pub record Frame : Type 0 where
  pub name : List ℕ
  pub statements : List Statement
  pub control : Control

-- what follows, as in `Turn`, with the frames that are open then, the innermost first
pub data Step : Type 0 where
  Ends : Step
  Stops : Statement → Step
  Passes : List Frame → Step
  Gives : Statement → List Frame → Step

abbrev pub lifted : Frame → List Frame → Turn → Step
lifted f outer flow.Turn.Ends = Ends
lifted f outer (flow.Turn.Stops s) = Stops s
lifted f outer (flow.Turn.Passes next) = Passes (record f { control = next } ∷ outer)
lifted f outer (flow.Turn.Gives s next) = Gives s (record f { control = next } ∷ outer)

-- at the end of a macro the flow continues below its CALL; the text ends at its end
abbrev pub leave_frame : List Frame → Step
leave_frame [] = Ends
leave_frame (f ∷ outer) = Passes (f ∷ outer)

abbrev pub is_call : Statement → Bool
is_call s = is_none s.label && (bytes_eq s.word (codes "CALL") && not (without_parameters s.params))

abbrev pub is_open : List ℕ → List Frame → Bool
is_open name [] = false
is_open name (f ∷ outer) = bytes_eq f.name name || is_open name outer

-- that many arguments as parameters, which are identifiers
abbrev pub fits : Macro → List (List ℕ) → Bool
fits m arguments = (length m.params == length arguments) && list_all is_variable m.params

-- the flow comes back to the statement below the CALL
abbrev pub below_call : Frame → Frame
below_call f = record f { control = to (f.control.place + 1) f.control.blocks }

-- into the macro, whose statements have the arguments in the places of the parameters
abbrev pub enter_by : Frame → List Frame → Statement → List ℕ → Option (List Statement) → Step
enter_by f outer s name None = Stops s
enter_by f outer s name (Some statements) = Passes (record { name = name; statements = statements; control = to 0 [] } ∷ (below_call f ∷ outer))

abbrev pub call_by : Frame → List Frame → Statement → List ℕ → List (List ℕ) → Option Macro → Step
call_by f outer s name arguments None = Stops s
call_by f outer s name arguments (Some m) = if is_open name (f ∷ outer) || not (fits m arguments) then Stops s
    else enter_by f outer s name (all_with_arguments (pairs_of m.params arguments) m.body)

abbrev pub call_of : List Statement → Frame → List Frame → Statement → List (List ℕ) → Step
call_of text f outer s [] = Stops s
call_of text f outer s (name ∷ arguments) = call_by f outer s name arguments (macro_named name text)

-- a MACRO or an ENDMAC that the flow comes to has no other, or is within a macro
abbrev pub step_of : List Statement → Valuation → Frame → List Frame → Statement → Step
step_of text values f outer s = if is_call s then call_of text f outer s s.params else
    (if begins_macro s || ends_macro s then Stops s else lifted f outer (turn f.statements values f.control))

abbrev pub step_at : List Statement → Valuation → Frame → List Frame → List Statement → Step
step_at text values f outer [] = leave_frame outer
step_at text values f outer (s ∷ below) = step_of text values f outer s

unfoldable pub step : List Statement → Valuation → List Frame → Step
step text values [] = Ends
step text values (f ∷ outer) = step_at text values f outer (drop f.control.place f.statements)

-- what comes out where no turn is left: as in `Flow`, on the line of the next statement
abbrev pub ended_by : List Statement → List Statement → List Statement
ended_by [] outer = outer
ended_by (s ∷ below) outer = given_up (s ∷ below)

abbrev pub given_up_in : List Frame → List Statement
given_up_in [] = []
given_up_in (f ∷ outer) = ended_by (drop f.control.place f.statements) (given_up_in outer)

-- ---- what a statement decides: it comes out, too, with the line of the next statement for its parameters, and with none where it cannot be followed

abbrev pub next_of : List Frame → List Statement
next_of [] = []
next_of (f ∷ outer) = drop f.control.place f.statements

abbrev pub decides : Part → Bool
decides If = true
decides Select = true
decides Jump = true
decides _ = false

-- the line and the word of a statement that decides what follows
abbrev pub decision : Statement → Option (ℕ × List ℕ)
decision s = if is_call s || decides (part_of s) then Some (s.line, s.word) else None

-- it comes out with a parameter
abbrev pub is_lead : Statement → Bool
is_lead s = is_some (decision s) && not (without_parameters s.params)

abbrev pub decision_at : List Statement → Option (ℕ × List ℕ)
decision_at [] = None
decision_at (s ∷ below) = decision s

-- what `decimal` gives, in a form that examples compute
unfoldable pub line_digits : ℕ → List ℕ
line_digits line = digits_onto 64 10 false line []

abbrev pub lead_text : List ℕ → List Statement → List ℕ
lead_text word [] = []
lead_text word (s ∷ others) = word ++ (codes "/" ++ line_digits s.line)

abbrev pub leads : Option Statement → List Frame → Step
leads None next = Passes next
leads (Some s) next = Gives s next

abbrev pub bare : Option Statement → Statement → Statement
bare None s = s
bare (Some t) s = t

abbrev pub told : ℕ → List ℕ → Step → Step
told line word (Passes next) = leads (said_by line (lead_text word (given_up_in next))) next
told line word (Stops s) = Stops (bare (said_by line word) s)
told line word due = due

abbrev pub told_as : Option (ℕ × List ℕ) → Step → Step
told_as None due = due
told_as (Some of) due = told of.0 of.1 due

abbrev pub told_step : List Statement → Valuation → List Frame → Step
told_step text values frames = told_as (decision_at (next_of frames)) (step text values frames)

abbrev pub traced : (List Frame → List Statement → List Statement) → List Statement → Step → List Statement
traced rest above Ends = []
traced rest above (Stops s) = s ∷ []
traced rest above (Passes next) = rest next above
traced rest above (Gives s next) = s ∷ rest next (carried above s)

-- the statements that come out from here on, in that many turns
unfoldable pub trace : ℕ → List Statement → List Frame → List Statement → List Statement
trace zero text frames above = given_up_in frames
trace (suc n) text frames above = traced (trace n text) above (told_step text (value_said above) frames)

abbrev pub begun : List Statement → List Frame
begun text = record { name = []; statements = outside text; control = to 0 [] } ∷ []

abbrev pub carried_out : List Statement → List Statement
carried_out text = trace most text (begun text) []

-- no word of macros and calls
abbrev pub is_plain : Statement → Bool
is_plain s = not (is_call s || (begins_macro s || ends_macro s))

-- it decides which statements are carried out, or says where they are: a statement of a block, a label, a macro or the call of one
abbrev pub is_other : Part → Bool
is_other Other = true
is_other _ = false

abbrev pub names_macro : List (List ℕ) → Bool
names_macro [] = false
names_macro (name ∷ arguments) = is_macro_name name

abbrev pub is_of_flow : Statement → Bool
is_of_flow s = if is_call s then names_macro s.params else not (is_plain s && is_other (part_of s))
