-- When the tool and the frame of a contact are known, from the lines of both ends of a connection (this profile). Nothing here is carried from line
-- to line: each rule looks back over the lines that came, the newest first.
use Rattle.std.specs.Prelude.{ℕ, nat_lt, Bool, true, false, ◌&&◌, ◌||◌, not, if◌then◌else◌, List, [], ◌∷◌, ◌++◌, map, slice_get, take}
use Rattle.std.specs.Prelude.{Option, Some, None, is_some}
use Rattle.std.specs.List.{list_any}
use Rattle.fixed_um.specs.Points.{point_opposite}
use Rattle.fixed_um.specs.declared.lengths.Point.{Point}
use Rattle.dme_line.specs.declared.commands.Command.{Command}
use Rattle.dme_line.specs.declared.commands.Command.TheVariants as command
use Rattle.dme_line.specs.declared.commands.Csy.{Csy}
use Rattle.dme_line.specs.declared.commands.Csy.TheVariants.{MachineCsy, PartCsy}
use Rattle.dme_line.specs.declared.tags.Tag.{Tag}
use Rattle.witness.specs.Asking.{Line, Sends, Answers, Signal}
use Rattle.witness.specs.Dialogues.{Dialogue, with_event, is_report, foreign_event, reported_by, unless_crossed}
use Rattle.witness.specs.Histories.{Sent, count_sent, place, open_lines, first_of, marks, mark_in, is_for, error_at, rival_of, stage_of}
use Rattle.witness.specs.Known.{nothing, standing}
use Rattle.witness.specs.Marks.{heard_as, is_received, is_error, is_answer, has_turn, is_foreign}
use Rattle.witness.specs.declared.lines.Heard.{Heard}
use Rattle.witness.specs.declared.lines.Heard.TheVariants as heard
use Rattle.witness.specs.declared.lines.Known.{Known}
use Rattle.witness.specs.declared.lines.Progress.{Progress}
use Rattle.witness.specs.declared.lines.Progress.TheVariants as progress
use Rattle.witness.specs.declared.lines.Reported.{Reported}
use Rattle.witness.specs.declared.lines.Reported.TheVariants as reports
use Rattle.witness.specs.declared.lines.Rule.TheVariants.{NotInTurn}
use Rattle.witness.specs.declared.lines.SentCommand.{SentCommand}
use Rattle.witness.specs.declared.lines.SentCommand.TheVariants as sends
use Rattle.witness.specs.declared.lines.Side.TheVariants.{Client, Server}
use Rattle.witness.specs.declared.lines.Standing.{Standing}
use Rattle.witness.specs.declared.lines.Use.{Use}

-- ---- faults of the server

-- a line waits for its turn to end, until it has an error or an end
abbrev pub waits_in : List Line → Sent → Bool
waits_in h s = has_turn s.command && not (error_at (place s) h)

-- data or an end of a line that has no error yet, or an error of a line that this profile does not know, while a line above it waits
abbrev pub comes_early : List Line → ℕ → Sent → Heard → Bool
comes_early h at s e = has_turn s.command
    && (list_any (waits_in h) (take at (open_lines h))
    && ((is_answer e && not (error_at (place s) h)) || (is_error e && is_foreign s.command)))

abbrev pub early_at : List Line → ℕ → Signal → Option Sent → Bool
early_at h at signal None = false
early_at h at signal (Some s) = comes_early h at s (heard_as s.command signal)

-- the event tags that were used, each once
abbrev pub events_with : Option (Tag × SentCommand) → List ℕ → List ℕ
events_with None events = events
events_with (Some (tag, what)) events = with_event tag events

abbrev pub events_of : List Line → List ℕ
events_of [] = []
events_of (Sends line what ∷ older) = events_with what (events_of older)
events_of (Answers line what ∷ older) = events_of older

-- a mark that belongs to no line, but for a report by event
abbrev pub fault_of : Tag → Signal → List Line → Option ℕ → Bool
fault_of tag signal older None = not (is_report tag signal (events_of older))
fault_of tag signal older (Some at) = early_at older at signal (slice_get (open_lines older) at)

-- a line of the server is a fault: it is no response, belongs to no line, or comes before its turn
abbrev pub is_fault : Option (Tag × Signal) → List Line → Bool
is_fault None older = true
is_fault (Some (tag, signal)) older = fault_of tag signal older (first_of tag (open_lines older))

-- ---- changes

-- a line that may be carried out at once, whatever is in progress: one without a valid tag, or a foreign one under an event tag
abbrev pub is_at_once : Option (Tag × SentCommand) → Bool
is_at_once None = true
is_at_once (Some (tag, what)) = foreign_event tag what

-- one was sent below the line at a place
abbrev pub at_once_below : ℕ → List Line → Bool
at_once_below n [] = false
at_once_below n (Sends line what ∷ older) = (is_at_once what && nat_lt n (count_sent older)) || at_once_below n older
at_once_below n (Answers line what ∷ older) = at_once_below n older

-- there was a fault after the `&` of the line at a place
abbrev pub fault_since : ℕ → List Line → Bool
fault_since n [] = false
fault_since n (Sends line what ∷ older) = fault_since n older
fault_since n (Answers line what ∷ older) = if is_for is_received n (mark_in what older) then false else is_fault what older || fault_since n older

-- the line that was open last under its tag when it was sent has an error: either may be the one that was refused
abbrev pub error_of : Option ℕ → List Line → Bool
error_of None h = false
error_of (Some n) h = error_at n h

abbrev pub is_doubtful : Sent → List Line → Bool
is_doubtful s h = error_of (rival_of s.tag s.above) h

-- how far a change is by its marks: nothing but `&` and then `%` may have been read
abbrev pub progress_with : Option Progress → Heard → Option Progress
progress_with (Some progress.Sent) heard.Received = Some progress.Begun
progress_with (Some progress.Begun) heard.Complete = Some progress.Done
progress_with _ _ = None

abbrev pub progress_of : List Heard → Option Progress
progress_of [] = Some progress.Sent
progress_of (h ∷ older) = progress_with (progress_of older) h

-- a change may hold if its marks are such, there was no fault after its `&`, it is not doubtful, and no line was sent below it that may be carried
-- out at once
abbrev pub so_far : Sent → Progress → Standing
so_far s p = record { line = place s; rival = rival_of s.tag s.above; progress = p }

abbrev pub unless_fault : Bool → Sent → Progress → Option Standing
unless_fault true s p = None
unless_fault false s p = Some (so_far s p)

abbrev pub by_progress : Sent → Bool → Option Progress → Option Standing
by_progress s faulty None = None
by_progress s faulty (Some progress.Sent) = Some (so_far s progress.Sent)
by_progress s faulty (Some progress.Begun) = unless_fault faulty s progress.Begun
by_progress s faulty (Some progress.Done) = unless_fault faulty s progress.Done

abbrev pub standing_of : Sent → List Line → Option Standing
standing_of s h =
    if at_once_below (place s) h || is_doubtful s h then None
    else by_progress s (fault_since (place s) h) (progress_of (marks (place s) h))

-- ---- the last change above

-- the last line that may change the tool, if it is a ChangeTool
abbrev pub tool_after : Sent → Command → Option (List ℕ × Sent) → Option (List ℕ × Sent)
tool_after s command.StartSession before = None
tool_after s command.EndSession before = None
tool_after s command.Home before = None
tool_after s (command.ChangeTool tool) before = Some (tool, s)
tool_after s _ before = before

-- the last line that may change the frame, if it is a SetCoordSystem; a part's zero point that is stored below it ends a part's frame
abbrev pub unless_part : Option (Csy × Sent) → Option (Csy × Sent)
unless_part None = None
unless_part (Some (MachineCsy, s)) = Some (MachineCsy, s)
unless_part (Some (PartCsy, s)) = None

abbrev pub csy_after : Sent → Command → Option (Csy × Sent) → Option (Csy × Sent)
csy_after s command.StartSession before = None
csy_after s command.EndSession before = None
csy_after s (command.SetCsyTransformation p) before = unless_part before
csy_after s (command.SetCoordSystem csy) before = Some (csy, s)
csy_after s _ before = before

-- the last line that may change the part's zero point, if it is a SetCsyTransformation
abbrev pub zero_after : Sent → Command → Option (Point × Sent) → Option (Point × Sent)
zero_after s command.StartSession before = None
zero_after s command.EndSession before = None
zero_after s (command.SetCsyTransformation p) before = Some (point_opposite p, s)
zero_after s _ before = before

-- the last of these above the last line that may change the frame
abbrev pub part_after : Command → Option (Point × Sent) → Option (Point × Sent) → Option (Point × Sent)
part_after command.StartSession zero before = None
part_after command.EndSession zero before = None
part_after (command.SetCoordSystem csy) zero before = zero
part_after _ zero before = before

-- below a line of the client; a foreign one may change anything, one that only asks nothing
abbrev pub below_sent : {A : Type 0} → (Sent → Command → A → A) → A → List Line → Option (Tag × SentCommand) → A → A
below_sent f none above None before = none
below_sent f none above (Some (tag, sends.Known c)) before = f (record { above = above; tag = tag; command = sends.Known c }) c before
below_sent f none above (Some (tag, sends.Asking)) before = before
below_sent f none above (Some (tag, sends.Foreign line)) before = none

abbrev pub last_tool : List Line → Option (List ℕ × Sent)
last_tool [] = None
last_tool (Sends line what ∷ older) = below_sent tool_after None older what (last_tool older)
last_tool (Answers line what ∷ older) = last_tool older

abbrev pub last_csy : List Line → Option (Csy × Sent)
last_csy [] = None
last_csy (Sends line what ∷ older) = below_sent csy_after None older what (last_csy older)
last_csy (Answers line what ∷ older) = last_csy older

abbrev pub last_zero : List Line → Option (Point × Sent)
last_zero [] = None
last_zero (Sends line what ∷ older) = below_sent zero_after None older what (last_zero older)
last_zero (Answers line what ∷ older) = last_zero older

abbrev pub last_part : List Line → Option (Point × Sent)
last_part [] = None
last_part (Sends line what ∷ older) = below_sent (λ s c before. part_after c (last_zero older) before) None older what (last_part older)
last_part (Answers line what ∷ older) = last_part older

-- ---- what is known

-- a change was done before each answer to a line below it
abbrev pub is_done : Option Progress → Bool
is_done (Some progress.Done) = true
is_done _ = false

abbrev pub done_before : ℕ → ℕ → List Line → Bool
done_before n m [] = true
done_before n m (Sends line what ∷ older) = done_before n m older
done_before n m (Answers line what ∷ older) =
    (not (is_for is_answer m (mark_in what older)) || is_done (progress_of (marks n older))) && done_before n m older

-- what may be known for the next line
abbrev pub may_hold : {A : Type 0} → Option (A × Sent) → List Line → Option (A × Standing)
may_hold None h = None
may_hold (Some (a, s)) h = standing a (standing_of s h)

abbrev pub known_below : List Line → Known
known_below h = record {
  tool = may_hold (last_tool h) h;
  csy = may_hold (last_csy h) h;
  part = may_hold (last_part h) h;
  zero = may_hold (last_zero h) h;
}

-- what may be known for a line above
abbrev pub may_hold_for : {A : Type 0} → Sent → Option (A × Sent) → List Line → Option (A × Standing)
may_hold_for u None h = None
may_hold_for u (Some (a, s)) h = if done_before (place s) (place u) h then standing a (standing_of s h) else None

abbrev pub all_for : Sent → List Line → Known
all_for u h = record {
  tool = may_hold_for u (last_tool u.above) h;
  csy = may_hold_for u (last_csy u.above) h;
  part = may_hold_for u (last_part u.above) h;
  zero = may_hold_for u (last_zero u.above) h;
}

abbrev pub known_for : Sent → List Line → Known
known_for u h = if is_doubtful u h then nothing else all_for u h

-- ---- what is reported

-- a line was sent under a tag under which another was open
abbrev pub crosses : List Line → Option (Tag × SentCommand) → Bool
crosses older None = false
crosses older (Some (tag, what)) = is_some (rival_of tag older)

abbrev pub is_crossed : Bool → List Line → Bool
is_crossed ordered [] = false
is_crossed ordered (Sends line what ∷ older) = is_crossed ordered older || (ordered && crosses older what)
is_crossed ordered (Answers line what ∷ older) = is_crossed ordered older

-- of a line of the client
abbrev pub reported_at_once : List ℕ → Bool → List Reported
reported_at_once line true = reports.Other Client line ∷ []
reported_at_once line false = []

-- of a mark for a line
abbrev pub early : Bool → Tag → List Reported
early true tag = reports.Broken NotInTurn tag ∷ []
early false tag = []

abbrev pub by_mark : Bool → Line → List Line → ℕ → Heard → Sent → List Reported
by_mark ordered line older at e s = early (comes_early older at s e) s.tag
    ++ reported_by (unless_crossed (is_crossed ordered older) (known_for s (line ∷ older))) s.tag s.command (stage_of s.command (marks (place s) older)) e

abbrev pub by_owner : Bool → Line → List Line → Signal → ℕ → Option Sent → List Reported
by_owner ordered line older signal at None = []
by_owner ordered line older signal at (Some s) = by_mark ordered line older at (heard_as s.command signal) s

abbrev pub unless_report : List ℕ → Bool → List Reported
unless_report line true = []
unless_report line false = reports.Unasked line ∷ []

-- of a line of the server
abbrev pub by_answer : Bool → List ℕ → Tag → Signal → List Line → Option ℕ → List Reported
by_answer ordered line tag signal older None = unless_report line (is_report tag signal (events_of older))
by_answer ordered line tag signal older (Some at) =
    by_owner ordered (Answers line (Some (tag, signal))) older signal at (slice_get (open_lines older) at)

abbrev pub reported_of : Bool → List ℕ → Option (Tag × Signal) → List Line → List Reported
reported_of ordered line None older = reports.Other Server line ∷ []
reported_of ordered line (Some (tag, signal)) older = by_answer ordered line tag signal older (first_of tag (open_lines older))

-- of all lines
abbrev pub all_reported : Bool → List Line → List Reported
all_reported ordered [] = []
all_reported ordered (Sends line what ∷ older) = all_reported ordered older ++ reported_at_once line (is_at_once what)
all_reported ordered (Answers line what ∷ older) = all_reported ordered older ++ reported_of ordered line what older

-- ---- a witness that keeps only what it needs

-- a line of the client that is open
abbrev pub seen : List Line → Sent → Use
seen h s = record {
  tag = s.tag;
  command = s.command;
  line = place s;
  stage = stage_of s.command (marks (place s) h);
  has_failed = error_at (place s) h;
  rival = rival_of s.tag s.above;
  known = known_for s h;
}

-- the witness after these lines
abbrev pub witnessed : Bool → List Line → Dialogue
witnessed ordered h = record {
  ordered = ordered;
  lines = count_sent h;
  uses = map (seen h) (open_lines h);
  events = events_of h;
  crossed = is_crossed ordered h;
  known = known_below h;
  reported = all_reported ordered h;
}
