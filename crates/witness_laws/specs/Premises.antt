-- What a server must keep, so that what a witness knows is so on its machine (this profile). Each premise speaks of one entry of a history and
-- looks back over those before it. A reply is for the first line under its tag that has no end: it answers only lines that it has read, and gives
-- each at most one end.
use Rattle.std.specs.Prelude.{◌≡◌, ℕ, ◌==◌, nat_lt, Bool, true, false, ◌&&◌, ◌||◌, not, if◌then◌else◌, List, [], ◌∷◌, Option, Some, None, is_some}
use Rattle.std.specs.List.{list_any}
use Rattle.fixed_um.specs.Points.{point_opposite}
use Rattle.fixed_um.specs.declared.frames.Frame.{Frame}
use Rattle.fixed_um.specs.declared.frames.Frame.TheVariants.{Machine, Part}
use Rattle.dme_line.specs.declared.commands.Command.{Command}
use Rattle.dme_line.specs.declared.commands.Command.TheVariants as command
use Rattle.dme_line.specs.declared.commands.Csy.{Csy}
use Rattle.dme_line.specs.declared.commands.Csy.TheVariants.{MachineCsy, PartCsy}
use Rattle.dme_line.specs.declared.tags.Tag.{Tag}
use Rattle.protocol_model.specs.declared.held.Datum.TheVariants as datum
use Rattle.witness.specs.Asking.{Line, Sends, Answers, Signal}
use Rattle.witness.specs.Histories.{mark_in, marks, stage_of}
use Rattle.witness.specs.Marks.{is_received}
use Rattle.witness.specs.Rules.{is_fault, is_at_once, is_done, is_crossed, progress_with, progress_of}
use Rattle.witness.specs.declared.lines.Heard.{Heard}
use Rattle.witness.specs.declared.lines.Heard.TheVariants as heard
use Rattle.witness.specs.declared.lines.SentCommand.{SentCommand}
use Rattle.witness.specs.declared.lines.SentCommand.TheVariants as sends
use Rattle.witness.specs.declared.lines.Stage.{Stage}
use Rattle.witness.specs.declared.lines.Stage.TheVariants as stage
use Rattle.witness_laws.specs.Machines.{Effect, TakesTool, SelectsFrame, StoresZero, Touches, Cause, InTurn, AtOnce, ForNoLine, Entry, Message, Does, lines, sent_at}
use Rattle.witness_laws.specs.Machines.{tool_taken, frame_selected, zero_stored, last, frame_now, part_selected, before_last, is_contact}

-- it holds of each entry, with those before it
abbrev pub Always : (Entry → List Entry → Type 0) → List Entry → Type 0
Always P [] = Unit {0}
Always P (entry ∷ h) = P entry h × Always P h

abbrev pub IfTrue : Bool → Type 0 → Type 0
IfTrue true P = P
IfTrue false P = Unit {0}

-- ---- what a line may do

abbrev pub takes_tool : Command → Bool
takes_tool command.StartSession = true
takes_tool command.EndSession = true
takes_tool command.Home = true
takes_tool (command.ChangeTool tool) = true
takes_tool _ = false

-- a zero point that is stored leaves the machine's frame
abbrev pub is_part : Option Frame → Bool
is_part None = true
is_part (Some Machine) = false
is_part (Some (Part zero)) = true

abbrev pub selects_frame : Option Frame → Command → Bool
selects_frame now command.StartSession = true
selects_frame now command.EndSession = true
selects_frame now (command.SetCoordSystem csy) = true
selects_frame now (command.SetCsyTransformation p) = is_part now
selects_frame now _ = false

abbrev pub stores_zero : Command → Bool
stores_zero command.StartSession = true
stores_zero command.EndSession = true
stores_zero (command.SetCsyTransformation p) = true
stores_zero _ = false

abbrev pub touches : Command → Bool
touches (command.PtMeas p d) = true
touches _ = false

abbrev pub command_may : Effect → Option Frame → Command → Bool
command_may (TakesTool tool) now c = takes_tool c
command_may (SelectsFrame frame) now c = selects_frame now c
command_may (StoresZero zero) now c = stores_zero c
command_may Touches now c = touches c

-- a line that this profile does not know may do anything, whether it fails or not; one that only asks does nothing
abbrev pub asked_may : Effect → Option Frame → SentCommand → Bool
asked_may effect now (sends.Known c) = command_may effect now c
asked_may effect now sends.Asking = false
asked_may effect now (sends.Foreign line) = true

abbrev pub line_may : Effect → Option Frame → Option (Tag × SentCommand) → Bool
line_may effect now None = true
line_may effect now (Some (tag, what)) = asked_may effect now what

-- ---- it acts between its being sent and its end

abbrev pub is_complete : Heard → Bool
is_complete heard.Complete = true
is_complete _ = false

-- the end of the line at a place was sent
abbrev pub has_ended : ℕ → List Line → Bool
has_ended n older = list_any is_complete (marks n older)

abbrev pub may_in_turn : Effect → Option Frame → Bool → Option (Option (Tag × SentCommand)) → Bool
may_in_turn effect now ended None = false
may_in_turn effect now ended (Some what) = line_may effect now what && (not (is_at_once what) && not ended)

abbrev pub may_at_once : Option (Option (Tag × SentCommand)) → Bool
may_at_once None = false
may_at_once (Some what) = is_at_once what

-- for no line it does nothing but take a tool, or lose it
abbrev pub takes_a_tool : Effect → Bool
takes_a_tool (TakesTool tool) = true
takes_a_tool _ = false

abbrev pub ActsWithin : Entry → List Entry → Type 0
ActsWithin (Message line) h = Unit {0}
ActsWithin (Does (InTurn n) effect) h = may_in_turn effect (frame_now h) (has_ended n (lines h)) (sent_at n (lines h)) ≡ true
ActsWithin (Does (AtOnce n) effect) h = may_at_once (sent_at n (lines h)) ≡ true
ActsWithin (Does ForNoLine effect) h = takes_a_tool effect ≡ true

-- ---- it acts for waiting lines in their order

-- contacts may be made in another order; nothing else may
abbrev pub keep_order : Effect → Effect → Bool
keep_order (TakesTool tool) other = true
keep_order (SelectsFrame frame) other = true
keep_order (StoresZero zero) other = true
keep_order Touches (TakesTool tool) = true
keep_order Touches (SelectsFrame frame) = true
keep_order Touches (StoresZero zero) = true
keep_order Touches Touches = false

-- the line whose data, end or error this is, if it comes before its turn: a line above it has neither error nor end
abbrev pub place_of : Option (ℕ × Heard) → Option ℕ
place_of None = None
place_of (Some (n, h)) = if is_received h then None else Some n

abbrev pub out_of_turn : Option (Tag × Signal) → List Line → Option ℕ
out_of_turn what older = if is_fault what older then place_of (mark_in what older) else None

abbrev pub with_shown : Option ℕ → List ℕ → List ℕ
with_shown None shown = shown
with_shown (Some n) shown = n ∷ shown

abbrev pub is_listed : ℕ → List ℕ → Bool
is_listed n [] = false
is_listed n (m ∷ shown) = n == m || is_listed n shown

-- an effect for the line at a place, after this one: if that is for a line below, a mark of that line came out of turn since, which shows it
abbrev pub is_in_order : ℕ → Effect → List ℕ → Cause → Effect → Bool
is_in_order n effect shown (InTurn m) other = not (nat_lt n m && keep_order effect other) || is_listed m shown
is_in_order n effect shown (AtOnce m) other = true
is_in_order n effect shown ForNoLine other = true

abbrev pub comes_in_order : ℕ → Effect → List ℕ → List Entry → Bool
comes_in_order n effect shown [] = true
comes_in_order n effect shown (Message (Sends line what) ∷ h) = comes_in_order n effect shown h
comes_in_order n effect shown (Message (Answers line what) ∷ h) = comes_in_order n effect (with_shown (out_of_turn what (lines h)) shown) h
comes_in_order n effect shown (Does cause other ∷ h) = is_in_order n effect shown cause other && comes_in_order n effect shown h

abbrev pub ActsInOrder : Entry → List Entry → Type 0
ActsInOrder (Message line) h = Unit {0}
ActsInOrder (Does (InTurn n) effect) h = comes_in_order n effect [] h ≡ true
ActsInOrder (Does (AtOnce n) effect) h = Unit {0}
ActsInOrder (Does ForNoLine effect) h = Unit {0}

-- what is carried out at once is so before anything is done for a waiting line below it
abbrev pub is_not_below : ℕ → Cause → Bool
is_not_below n (InTurn m) = not (nat_lt n m)
is_not_below n (AtOnce m) = true
is_not_below n ForNoLine = true

abbrev pub none_below : ℕ → List Entry → Bool
none_below n [] = true
none_below n (Message line ∷ h) = none_below n h
none_below n (Does cause effect ∷ h) = is_not_below n cause && none_below n h

abbrev pub ActsBefore : Entry → List Entry → Type 0
ActsBefore (Message line) h = Unit {0}
ActsBefore (Does (InTurn n) effect) h = Unit {0}
ActsBefore (Does (AtOnce n) effect) h = none_below n h ≡ true
ActsBefore (Does ForNoLine effect) h = Unit {0}

-- ---- `&` and `%` of a change, in turn, mean that it was made, and that nothing of the sort was done since

abbrev pub selected : Csy → ℕ → List Entry → Option Frame
selected MachineCsy n h = Some Machine
selected PartCsy n h = part_selected n h

abbrev pub MadeFor : ℕ → List Entry → Command → Type 0
MadeFor n h (command.ChangeTool tool) = last tool_taken h ≡ Some (InTurn n, Some tool)
MadeFor n h (command.SetCoordSystem csy) = last frame_selected h ≡ Some (InTurn n, selected csy n h)
MadeFor n h (command.SetCsyTransformation p) = last zero_stored h ≡ Some (InTurn n, Some (point_opposite p))
MadeFor n h _ = Unit {0}

abbrev pub MadeAsked : ℕ → List Entry → SentCommand → Type 0
MadeAsked n h (sends.Known c) = MadeFor n h c
MadeAsked n h sends.Asking = Unit {0}
MadeAsked n h (sends.Foreign line) = Unit {0}

abbrev pub MadeSent : ℕ → List Entry → Option (Option (Tag × SentCommand)) → Type 0
MadeSent n h None = Unit {0}
MadeSent n h (Some None) = Unit {0}
MadeSent n h (Some (Some (tag, what))) = MadeAsked n h what

abbrev pub MadeAt : Bool → List Entry → Option (ℕ × Heard) → Type 0
MadeAt faulty h None = Unit {0}
MadeAt faulty h (Some (n, e)) =
    IfTrue (not faulty && is_done (progress_with (progress_of (marks n (lines h))) e)) (MadeSent n h (sent_at n (lines h)))

abbrev pub ChangesAreMade : Entry → List Entry → Type 0
ChangesAreMade (Message (Sends line what)) h = Unit {0}
ChangesAreMade (Message (Answers line what)) h = MadeAt (is_fault what (lines h)) h (mark_in what (lines h))
ChangesAreMade (Does cause effect) h = Unit {0}

-- ---- what is done for no line is reported by a fault

abbrev pub is_for_none : Cause → Bool
is_for_none (InTurn n) = false
is_for_none (AtOnce n) = false
is_for_none ForNoLine = true

-- a tool was, no line changed it since, and no fault came since
abbrev pub is_unreported : List Entry → Bool
is_unreported [] = false
is_unreported (Message (Sends line what) ∷ h) = is_unreported h
is_unreported (Message (Answers line what) ∷ h) = not (is_fault what (lines h)) && is_unreported h
is_unreported (Does cause effect ∷ h) = if takes_a_tool effect then is_for_none cause else is_unreported h

-- so it was before the last of these effects, and no fault came since
abbrev pub is_lost_before : (Cause → Effect → Bool) → List Entry → Bool
is_lost_before is_it [] = false
is_lost_before is_it (Message (Sends line what) ∷ h) = is_lost_before is_it h
is_lost_before is_it (Message (Answers line what) ∷ h) = not (is_fault what (lines h)) && is_lost_before is_it h
is_lost_before is_it (Does cause effect ∷ h) = if is_it cause effect then is_unreported h else is_lost_before is_it h

-- at the end of a touch, before its contact
abbrev pub is_loss_reported : Option (ℕ × Heard) → List Entry → Bool
is_loss_reported None h = true
is_loss_reported (Some (n, e)) h = not (is_complete e) || not (is_lost_before (is_contact n) h)

abbrev pub LossesAreReported : Entry → List Entry → Type 0
LossesAreReported (Message (Sends line what)) h = Unit {0}
LossesAreReported (Message (Answers line what)) h = is_loss_reported (mark_in what (lines h)) h ≡ true
LossesAreReported (Does cause effect) h = Unit {0}

-- ---- `&`, `#` and `%` of a touch mean that it made its contact

abbrev pub has_point : Stage → Bool
has_point (stage.Given (datum.Point p)) = true
has_point _ = false

abbrev pub point_given : Option (Option (Tag × SentCommand)) → List Heard → Bool
point_given None heards = false
point_given (Some None) heards = false
point_given (Some (Some (tag, what))) heards = has_point (stage_of what heards)

abbrev pub has_contact : Option (ℕ × Heard) → List Entry → Bool
has_contact None h = true
has_contact (Some (n, e)) h =
    not (is_complete e && point_given (sent_at n (lines h)) (marks n (lines h))) || is_some (before_last (is_contact n) h)

abbrev pub TouchesAreMade : Entry → List Entry → Type 0
TouchesAreMade (Message (Sends line what)) h = Unit {0}
TouchesAreMade (Message (Answers line what)) h = has_contact (mark_in what (lines h)) h ≡ true
TouchesAreMade (Does cause effect) h = Unit {0}

-- ---- all of them

pub record Keeps (h : List Entry) : Type 0 where
  pub within : Always ActsWithin h
  pub in_order : Always ActsInOrder h
  pub before : Always ActsBefore h
  pub made : Always ChangesAreMade h
  pub reported : Always LossesAreReported h
  pub touched : Always TouchesAreMade h

-- as long as no line was sent under a tag under which another was open; then nothing is known any more
abbrev pub KeepsUnlessCrossed : List Entry → Type 0
KeepsUnlessCrossed h = is_crossed true (lines h) ≡ false → Keeps h
