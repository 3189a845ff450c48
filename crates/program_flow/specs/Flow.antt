-- Which statements are carried out, in their order (ISO 22093, IF, SELECT, DO and JUMPTO): what follows from where the flow is and from the values
-- that what was carried out says, newest statement first. A DO and an ENDDO stand for the assignment to the index.
use Rattle.std.specs.Prelude.{ℕ, ◌+◌, ◌-◌, Bool, true, false, not, ◌&&◌, ◌==◌, List, [], ◌∷◌, ◌++◌, take, drop, codes, bytes_eq, is_none}
use Rattle.std.specs.Prelude.{Option, Some, None, Result, ℤ, pos, ◌+ℤ◌, int_lt, int_le, unsigned_abs, if◌then◌else◌}
use Rattle.std.specs.Ordering.{int_eq}
use Rattle.std.specs.Result.{result_ok}
use Rattle.dmis_text.specs.Reading.{text_reading}
use Rattle.dmis_text.specs.declared.elements.Statement.{Statement}
use Rattle.dmis_text.specs.declared.reading.TextFault.{TextFault}
use Rattle.program_flow.specs.LookBack.{fault_of, kind_said, value_said}
use Rattle.program_flow.specs.Numbers.{and_then}
use Rattle.program_flow.specs.Texts.{whole_of}
use Rattle.program_flow.specs.Values.{Valuation, Value, value_of}
use Rattle.program_flow.specs.Blocks.{around, end_of, is_level, label_place, part_of, start_of}
use Rattle.program_flow.specs.Conditions.{holds}
use Rattle.program_flow.specs.Selections.{chosen, selected}
use Rattle.program_flow.specs.declared.blocks.Block.{Block}
use Rattle.program_flow.specs.declared.blocks.Rounds.{Rounds}
use Rattle.program_flow.specs.declared.blocks.Part.{Part}
use Rattle.program_flow.specs.declared.blocks.Part.TheVariants.{If, Else, EndIf, Do, EndDo, Select, Case, DefaultCase, EndCase, EndSelect, Jump, Label, Other}
use Rattle.program_flow.specs.declared.selections.Choice.{Choice}
use Rattle.program_flow.specs.declared.selections.Choice.TheVariants.{Branch, NoBranch}

-- the place of the next statement, and the blocks that are open there, the innermost first
pub record Control : Type 0 where
  pub place : ℕ
  pub blocks : List Block

-- no statement is left; one cannot be followed, and comes out as it is, the last; nothing comes out; a statement does
pub data Turn : Type 0 where
  Ends : Turn
  Stops : Statement → Turn
  Passes : Control → Turn
  Gives : Statement → Control → Turn

abbrev pub to : ℕ → List Block → Control
to place blocks = record { place = place; blocks = blocks }

-- a block of this first place and this end, without rounds
abbrev pub branch : ℕ → ℕ → Block
branch start end = record { start = start; end = end; rounds = None }

-- ---- IF

abbrev pub condition_of : Valuation → List (List ℕ) → Option Bool
condition_of values (only ∷ []) = result_ok (holds values only)
condition_of values _ = None

-- past an IF that does not hold, at its ELSE or its ENDIF
abbrev pub other_branch : Control → Statement → ℕ → Part → Option ℕ → Turn
other_branch c s middle Else (Some end) = Passes (to (middle + 1) (branch (middle + 1) end ∷ c.blocks))
other_branch c s middle Else None = Stops s
other_branch c s middle _ end = Passes (to (middle + 1) c.blocks)

abbrev pub past_branch : Control → Statement → ℕ → List Statement → Turn
past_branch c s middle [] = Stops s
past_branch c s middle (t ∷ below) = other_branch c s middle (part_of t) (end_of Else 0 (middle + 1) below)

abbrev pub if_by : List Statement → Control → Statement → Option Bool → Option ℕ → Turn
if_by statements c s (Some true) (Some middle) = Passes (to (c.place + 1) (branch (c.place + 1) middle ∷ c.blocks))
if_by statements c s (Some false) (Some middle) = past_branch c s middle (drop middle statements)
if_by statements c s _ _ = Stops s

-- at an ELSE the first branch ends, at an ENDIF the only one or the second: past the end of the IF; at an ENDCAS past that of the SELECT
abbrev pub leave_by : Control → Statement → List Block → Option ℕ → Turn
leave_by c s (b ∷ outer) (Some end) = if b.end == c.place then Passes (to (end + 1) outer) else Stops s
leave_by c s _ _ = Stops s

-- ---- SELECT

-- a branch is the last if the statement below its end ends its SELECT
abbrev pub is_select_end : Part → Bool
is_select_end EndSelect = true
is_select_end _ = false

abbrev pub is_last : List Statement → Bool
is_last [] = false
is_last (t ∷ below) = is_select_end (part_of t)

abbrev pub is_default : Part → Bool
is_default DefaultCase = true
is_default _ = false

-- into the branch that began with this part; that of a DFTCAS has to be the last
abbrev pub enter_by : List Statement → Control → Statement → ℕ → Part → Option ℕ → Turn
enter_by statements c s start part None = Stops s
enter_by statements c s start part (Some end) = if is_default part && not (is_last (drop (end + 1) statements)) then Stops s
    else Passes (to start (branch start end ∷ c.blocks))

abbrev pub enter_at : List Statement → Control → Statement → ℕ → List Statement → Turn
enter_at statements c s place [] = Stops s
enter_at statements c s place (t ∷ below) = enter_by statements c s (place + 1) (part_of t) (end_of (part_of t) 0 (place + 1) below)

-- into the branch that is chosen, or past the SELECT
abbrev pub choose_by : List Statement → Control → Statement → ℕ → Option Choice → Turn
choose_by statements c s end None = Stops s
choose_by statements c s end (Some NoBranch) = Passes (to (end + 1) c.blocks)
choose_by statements c s end (Some (Branch place)) = enter_at statements c s place (drop place statements)

abbrev pub select_by : List Statement → Valuation → Control → Statement → List Statement → Option Value → Option ℕ → Turn
select_by statements values c s below (Some v) (Some end) = choose_by statements c s end (chosen values v 0 (c.place + 1) below)
select_by statements values c s below _ _ = Stops s

-- ---- DO

-- the index, its first value, its limit and its increment
pub record Header : Type 0 where
  pub name : List ℕ
  pub first : List ℕ
  pub limit : List ℕ
  pub step : List ℕ

abbrev pub header_of : List (List ℕ) → Option Header
header_of (name ∷ (first ∷ (limit ∷ []))) = Some (record { name = name; first = first; limit = limit; step = codes "1" })
header_of (name ∷ (first ∷ (limit ∷ (step ∷ [])))) = Some (record { name = name; first = first; limit = limit; step = step })
header_of _ = None

abbrev pub whole_value : Valuation → List ℕ → Option ℤ
whole_value values text = result_ok (and_then (value_of values text) whole_of)

-- whether a value has not passed the limit yet
abbrev pub is_within : ℤ → ℤ → ℤ → Bool
is_within value limit step = if int_lt step (pos 0) then int_le limit value else int_le value limit

-- the assignment that a text says, on this line: one statement alone
abbrev pub only_assignment : ℕ → List Statement → Option TextFault → Option Statement
only_assignment line (s ∷ []) None = if bytes_eq s.word (codes "ASSIGN") then Some (record s { line = line }) else None
only_assignment line _ _ = None

unfoldable pub assignment : ℕ → List ℕ → Option Statement
assignment line text = only_assignment line (text_reading text).statements (text_reading text).fault

abbrev pub gives_or : Statement → Option Statement → Control → Turn
gives_or s None next = Stops s
gives_or s (Some a) next = Gives a next

abbrev pub assigns : Statement → List ℕ → Control → Turn
assigns s text next = gives_or s (assignment s.line text) next

abbrev pub first_text : Header → List ℕ
first_text h = h.name ++ (codes "=ASSIGN/" ++ h.first)

abbrev pub next_text : Header → List ℕ
next_text h = h.name ++ (codes "=ASSIGN/" ++ (h.name ++ (codes "+(" ++ (h.step ++ codes ")"))))

-- into the first round, or past the block
abbrev pub begun : Control → ℕ → ℤ → ℤ → ℤ → Control
begun c end first limit step = if is_within first limit step
    then to (c.place + 1) (record { start = c.place + 1; end = end; rounds = Some (record { header = c.place; limit = limit; step = step }) } ∷ c.blocks)
    else to (end + 1) c.blocks

abbrev pub do_with : Control → Statement → Header → ℕ → Option ℤ → Option ℤ → Option ℤ → Turn
do_with c s h end (Some first) (Some limit) (Some step) =
    if unsigned_abs step == 0 then Stops s else assigns s (first_text h) (begun c end first limit step)
do_with c s h end _ _ _ = Stops s

abbrev pub do_by : Valuation → Control → Statement → Option Header → Option ℕ → Turn
do_by values c s (Some h) (Some end) = do_with c s h end (whole_value values h.first) (whole_value values h.limit) (whole_value values h.step)
do_by values c s _ _ = Stops s

-- another round, or past the block; a limit or an increment that is no longer what it was at the DO stops the flow
unfoldable pub is_kept : ℤ → ℤ → Rounds → Bool
is_kept limit step r = int_eq limit r.limit && int_eq step r.step

abbrev pub again : Control → Block → List Block → Rounds → ℤ → Control
again c b outer r next = if is_within next r.limit r.step then to b.start (b ∷ outer) else to (c.place + 1) outer

abbrev pub round_with : Control → Statement → Block → List Block → Rounds → Header → Option ℤ → Option ℤ → Option ℤ → Turn
round_with c s b outer r h (Some value) (Some limit) (Some step) =
    if is_kept limit step r then assigns s (next_text h) (again c b outer r (value +ℤ step)) else Stops s
round_with c s b outer r h _ _ _ = Stops s

abbrev pub round_by : Valuation → Control → Statement → Block → List Block → Rounds → Option Header → Turn
round_by values c s b outer r None = Stops s
round_by values c s b outer r (Some h) = round_with c s b outer r h (whole_value values h.name) (whole_value values h.limit) (whole_value values h.step)

abbrev pub header_at : List Statement → Option Header
header_at [] = None
header_at (s ∷ below) = header_of s.params

abbrev pub round_of : List Statement → Valuation → Control → Statement → Block → List Block → Option Rounds → Turn
round_of statements values c s b outer None = Stops s
round_of statements values c s b outer (Some r) = round_by values c s b outer r (header_at (drop r.header statements))

abbrev pub enddo_by : List Statement → Valuation → Control → Statement → List Block → Turn
enddo_by statements values c s [] = Stops s
enddo_by statements values c s (b ∷ outer) = if b.end == c.place then round_of statements values c s b outer b.rounds else Stops s

-- ---- JUMPTO: out of blocks, or within one, but never into a block

abbrev pub jump_to : List Statement → Statement → ℕ → List Block → Turn
jump_to statements s place blocks =
    if is_level 0 (take (place - start_of blocks) (drop (start_of blocks) statements)) then Passes (to place blocks) else Stops s

abbrev pub jump_by : List Statement → Control → Statement → Option ℕ → Turn
jump_by statements c s None = Stops s
jump_by statements c s (Some place) = jump_to statements s place (around place c.blocks)

abbrev pub jump_of : List Statement → Control → Statement → List (List ℕ) → Turn
jump_of statements c s (only ∷ []) = jump_by statements c s (label_place only 0 statements)
jump_of statements c s _ = Stops s

-- ---- the next statement

abbrev pub turn_of : List Statement → Valuation → Control → Statement → List Statement → Part → Turn
turn_of statements values c s below If = if_by statements c s (condition_of values s.params) (end_of If 0 (c.place + 1) below)
turn_of statements values c s below Else = leave_by c s c.blocks (end_of Else 0 (c.place + 1) below)
turn_of statements values c s below EndIf = leave_by c s c.blocks (Some c.place)
turn_of statements values c s below Do = do_by values c s (header_of s.params) (end_of Do 0 (c.place + 1) below)
turn_of statements values c s below EndDo = enddo_by statements values c s c.blocks
turn_of statements values c s below Select = select_by statements values c s below (selected values s.params) (end_of Select 0 (c.place + 1) below)
turn_of statements values c s below Case = Stops s
turn_of statements values c s below DefaultCase = Stops s
turn_of statements values c s below EndCase = leave_by c s c.blocks (end_of Select 0 (c.place + 1) below)
turn_of statements values c s below EndSelect = Stops s
turn_of statements values c s below Jump = jump_of statements c s s.params
turn_of statements values c s below Label = Passes (to (c.place + 1) c.blocks)
turn_of statements values c s below Other = Gives s (to (c.place + 1) c.blocks)

abbrev pub turn_at : List Statement → Valuation → Control → List Statement → Turn
turn_at statements values c [] = Ends
turn_at statements values c (s ∷ below) = turn_of statements values c s below (part_of s)

unfoldable pub turn : List Statement → Valuation → Control → Turn
turn statements values c = turn_at statements values c (drop c.place statements)

-- what is carried out by a statement and those above: one whose value has a fault is not
abbrev pub carried : List Statement → Statement → List Statement
carried above s = if is_none (fault_of (kind_said above) (value_said above) s) then s ∷ above else above

-- what comes out where no turn is left: an `ENDDO` on the line of the next statement, which no flat program has
abbrev pub given_up : List Statement → List Statement
given_up [] = []
given_up (s ∷ below) = record { line = s.line; label = None; word = codes "ENDDO"; params = [] } ∷ []

-- how many turns there are
abbrev pub most : ℕ
most = 1000000
