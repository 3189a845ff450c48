-- The lines of both ends of a connection, one at a time, and what a witness reports of them (this profile).
use Rattle.std.specs.Prelude.{ℕ, ◌+◌, ◌==◌, Bool, true, false, ◌&&◌, ◌||◌, not, if◌then◌else◌, List, [], ◌∷◌, ◌++◌, map, position, remove, slice_get, take}
use Rattle.std.specs.Prelude.{Option, Some, None, is_some}
use Rattle.std.specs.List.{list_any}
use Rattle.fixed_um.specs.declared.lengths.Point.{Point}
use Rattle.fixed_um.specs.declared.frames.Frame.{Frame}
use Rattle.fixed_um.specs.Shapes.{Direction}
use Rattle.dme_line.specs.Kinds.{kind_of}
use Rattle.dme_line.specs.declared.commands.Command.{Command}
use Rattle.dme_line.specs.declared.commands.Command.TheVariants as command
use Rattle.dme_line.specs.declared.tags.Tag.{Tag}
use Rattle.dme_line.specs.declared.tags.Tag.TheVariants.{Std, Event}
use Rattle.contact_ledger.specs.declared.acts.Act.TheVariants as act
use Rattle.protocol_model.specs.Open.{asks_data}
use Rattle.protocol_model.specs.Replies.{tag_is}
use Rattle.protocol_model.specs.declared.held.Datum.{Datum}
use Rattle.protocol_model.specs.declared.held.Datum.TheVariants as datum
use Rattle.witness.specs.Asking.{Line, Sends, Answers, Signal, Given}
use Rattle.witness.specs.Known.{nothing, all_renewed, below, fresh, is_rival, tool_of, frame_of, frame_in, done}
use Rattle.witness.specs.Marks.{heard_as, is_end, step, stage_with, is_error, is_answer, has_turn, is_foreign}
use Rattle.witness.specs.declared.lines.Heard.{Heard}
use Rattle.witness.specs.declared.lines.Known.{Known}
use Rattle.witness.specs.declared.lines.Renewal.TheVariants.{Fault, Mark, Answer}
use Rattle.witness.specs.declared.lines.Reported.{Reported}
use Rattle.witness.specs.declared.lines.Reported.TheVariants as reports
use Rattle.witness.specs.declared.lines.Rule.TheVariants.{NotInTurn}
use Rattle.witness.specs.declared.lines.SentCommand.{SentCommand}
use Rattle.witness.specs.declared.lines.SentCommand.TheVariants as sends
use Rattle.witness.specs.declared.lines.Side.TheVariants.{Client, Server}
use Rattle.witness.specs.declared.lines.Stage.{Stage}
use Rattle.witness.specs.declared.lines.Stage.TheVariants as stage
use Rattle.witness.specs.declared.lines.Step.{Step}
use Rattle.witness.specs.declared.lines.Step.TheVariants.{Stays, Comes, Fails, Breaks, Counts}
use Rattle.witness.specs.declared.lines.Use.{Use}

-- whether the order between the two ends is known; how many lines of the client there were; those of them without their end, in order; the event tags
-- that were used; whether a line was sent under a tag in use, so that nothing is known any more; what may be known for the next line; and what
-- was reported
pub record Dialogue : Type 0 where
  pub ordered : Bool
  pub lines : ℕ
  pub uses : List Use
  pub events : List ℕ
  pub crossed : Bool
  pub known : Known
  pub reported : List Reported

-- a connection without a line
abbrev pub silence : Bool → Dialogue
silence ordered = record { ordered = ordered; lines = 0; uses = []; events = []; crossed = false; known = nothing; reported = [] }

-- ---- a line of the client

-- the command that was sent last under a tag, of those that are open: its line, and whether it has failed
abbrev pub later : Tag → Use → Option (ℕ × Bool) → Option (ℕ × Bool)
later tag u found = if tag_is u.tag tag then Some (u.line, u.has_failed) else found

abbrev pub last_under : Tag → List Use → Option (ℕ × Bool) → Option (ℕ × Bool)
last_under tag [] found = found
last_under tag (u ∷ uses) found = last_under tag uses (later tag u found)

abbrev pub line_of : Option (ℕ × Bool) → Option ℕ
line_of None = None
line_of (Some (line, has_failed)) = Some line

abbrev pub is_lost : Option (ℕ × Bool) → Bool
is_lost None = false
is_lost (Some (line, has_failed)) = has_failed

-- the event tags after a line under a tag, each once
abbrev pub with_event : Tag → List ℕ → List ℕ
with_event (Std n) events = events
with_event (Event n) events = if list_any (λ m. m == n) events then events else events ++ n ∷ []

-- a command is sent under a tag, under which this one was sent last of those that are open
abbrev pub sending_after : Dialogue → Tag → SentCommand → Option (ℕ × Bool) → Dialogue
sending_after d tag what before = record {
  ordered = d.ordered;
  lines = d.lines + 1;
  uses = d.uses ++ record {
    tag = tag;
    command = what;
    line = d.lines;
    stage = stage.Sent;
    has_failed = false;
    rival = line_of before;
    known = if is_lost before then nothing else d.known;
  } ∷ [];
  events = with_event tag d.events;
  crossed = d.crossed || (d.ordered && is_some (line_of before));
  known = below (fresh d.lines (line_of before) (is_lost before)) what d.known;
  reported = d.reported;
}

abbrev pub sending : Dialogue → Tag → SentCommand → Dialogue
sending d tag what = sending_after d tag what (last_under tag d.uses None)

-- a line that may be carried out at once, whatever is in progress: nothing that was known before is known any more
abbrev pub unknowing : Use → Use
unknowing u = record u { known = nothing }

abbrev pub at_once : Dialogue → List ℕ → Dialogue
at_once d line = record {
  ordered = d.ordered;
  lines = d.lines;
  uses = map unknowing d.uses;
  events = d.events;
  crossed = d.crossed;
  known = nothing;
  reported = d.reported ++ reports.Other Client line ∷ [];
}

abbrev pub one_more : Dialogue → Dialogue
one_more d = record {
  ordered = d.ordered;
  lines = d.lines + 1;
  uses = d.uses;
  events = d.events;
  crossed = d.crossed;
  known = d.known;
  reported = d.reported;
}

-- a foreign line under an event tag is such a line
abbrev pub foreign_event : Tag → SentCommand → Bool
foreign_event (Std n) what = false
foreign_event (Event n) what = is_foreign what

abbrev pub sent_tagged : Dialogue → List ℕ → Tag → SentCommand → Dialogue
sent_tagged d line tag what = if foreign_event tag what then sending (at_once d line) tag what else sending d tag what

abbrev pub client_sent : Dialogue → List ℕ → Option (Tag × SentCommand) → Dialogue
client_sent d line None = one_more (at_once d line)
client_sent d line (Some (tag, what)) = sent_tagged d line tag what

-- ---- a fault of the server

-- what is known of a line or for the next is lost, if it rests on a change that has begun
abbrev pub use_renewed : (Known → Known) → Use → Use
use_renewed f u = record u { known = f u.known }

-- a line, if a mark for it is a fault
abbrev pub if_early : Bool → Use → Use
if_early true u = use_renewed (all_renewed Fault) u
if_early false u = u

abbrev pub faulting : Dialogue → Reported → Dialogue
faulting d report = record {
  ordered = d.ordered;
  lines = d.lines;
  uses = map (use_renewed (all_renewed Fault)) d.uses;
  events = d.events;
  crossed = d.crossed;
  known = all_renewed Fault d.known;
  reported = d.reported ++ report ∷ [];
}

-- ---- what is reported

-- one report, or none
abbrev pub listed : Option Reported → List Reported
listed None = []
listed (Some report) = report ∷ []

-- a move, in the frame that is known
abbrev pub moved : Point → Option Frame → Reported
moved p (Some frame) = reports.Did (act.Moved p frame)
moved p None = reports.MovedSomewhere p

-- a frame that is selected
abbrev pub framed : Option Frame → Reported
framed (Some frame) = reports.Did (act.Framed frame)
framed None = reports.FramedSomehow

-- a touch, with the tool and in the frame that are known
abbrev pub touched : Option (List ℕ) → Option Frame → Point → Option Direction → Point → Reported
touched (Some tool) (Some frame) p d at = reports.Did (act.Contact p d tool frame at)
touched (Some tool) None p d at = reports.Touched p d (Some tool) None at
touched None frame p d at = reports.Touched p d None frame at

-- the act of a command that is complete, with its data
abbrev pub act_of : Known → Command → Option Datum → List Reported
act_of k command.IsHomed (Some (datum.Homed homed)) = reports.Did (act.HomedIs homed) ∷ []
act_of k command.Home given = reports.Did act.Homed ∷ []
act_of k (command.GoTo p) given = moved p (frame_of k) ∷ []
act_of k (command.PtMeas p d) (Some (datum.Point at)) = touched (tool_of k) (frame_of k) p d at ∷ []
act_of k (command.ChangeTool tool) given = reports.Did (act.Changed tool) ∷ []
act_of k (command.SetCoordSystem csy) given = framed (frame_in csy (done k.zero)) ∷ []
act_of k _ _ = []

-- a step of a command under a tag
abbrev pub report_of : Known → Tag → Command → Step → List Reported
report_of k tag c Stays = []
report_of k tag c (Comes s) = []
report_of k tag c Fails = []
report_of k tag c (Breaks rule) = reports.Broken rule tag ∷ []
report_of k tag c (Counts given) = act_of k c given

-- a line that is not known, at its first mark; one under an event tag was reported before
abbrev pub other_at : Tag → List ℕ → Stage → List Reported
other_at (Std n) line stage.Sent = reports.Other Client line ∷ []
other_at _ line _ = []

-- a mark of what was asked for
abbrev pub reported_by : Known → Tag → SentCommand → Stage → Heard → List Reported
reported_by k tag (sends.Known c) s h = report_of k tag c (step (asks_data (kind_of c)) s h)
reported_by k tag sends.Asking s h = []
reported_by k tag (sends.Foreign line) s h = other_at tag line s

-- ---- a line of the server

-- a command waits until it has failed or ended
abbrev pub waits : Use → Bool
waits u = has_turn u.command && not u.has_failed

-- a mark out of turn is a fault: data or an end of what has not failed, and any error of what is foreign. Any other error may refuse a line that
-- was read and whose turn did not come
abbrev pub may_not_come : Use → Heard → Bool
may_not_come u h = (is_answer h && not u.has_failed) || (is_error h && is_foreign u.command)

abbrev pub is_out_of_turn : List Use → ℕ → Use → Heard → Bool
is_out_of_turn uses at u h = has_turn u.command && (list_any waits (take at uses) && may_not_come u h)

-- the command after its mark
abbrev pub after_mark : Use → Heard → Use
after_mark u h = record u { stage = stage_with u.command u.stage h; has_failed = u.has_failed || is_error h }

-- what may be known for it when it is answered
abbrev pub answered_known : Heard → Known → Known
answered_known h k = if is_answer h then all_renewed Answer k else k

-- a later command under the tag of one that failed may be the one that was refused
abbrev pub without_rival : ℕ → Heard → Use → Use
without_rival line h u = if is_rival line u.rival && is_error h then unknowing u else u

-- each command after a mark for the one on a line
abbrev pub if_own : ℕ → Heard → Use → Use
if_own line h u =
    if u.line == line then after_mark (use_renewed (answered_known h) (without_rival line h u)) h
    else without_rival line h u

abbrev pub use_heard : ℕ → Heard → Use → Use
use_heard line h u = use_renewed (all_renewed (Mark line h)) (if_own line h u)

-- what is left of the commands after a mark for the one at a place
abbrev pub left_over : List Use → ℕ → Bool → List Use
left_over uses at true = remove uses at
left_over uses at false = uses

-- what is known of a line, unless a tag was in use twice
abbrev pub unless_crossed : Bool → Known → Known
unless_crossed crossed k = if crossed then nothing else k

-- a mark for the command at a place
abbrev pub hearing : Dialogue → ℕ → Use → Heard → Bool → Dialogue
hearing d at u h is_end = record {
  ordered = d.ordered;
  lines = d.lines;
  uses = left_over (map (use_heard u.line h) d.uses) at is_end;
  events = d.events;
  crossed = d.crossed;
  known = all_renewed (Mark u.line h) d.known;
  reported = d.reported ++ reported_by (unless_crossed d.crossed (use_heard u.line h u).known) u.tag u.command u.stage h;
}

abbrev pub heard_at : Dialogue → ℕ → Use → Heard → Bool → Dialogue
heard_at d at u h is_end =
    if is_out_of_turn d.uses at u h
    then hearing (faulting d (reports.Broken NotInTurn u.tag)) at (use_renewed (all_renewed Fault) u) h is_end
    else hearing d at u h is_end

-- the command at a place
abbrev pub at_use : Dialogue → ℕ → Signal → Option Use → Dialogue
at_use d at signal None = d
at_use d at signal (Some u) = heard_at d at u (heard_as u.command signal) (is_end signal)

-- data under an event tag that was used: a report by event
abbrev pub is_report : Tag → Signal → List ℕ → Bool
is_report (Event n) (Given p homed) events = list_any (λ m. m == n) events
is_report _ _ events = false

-- a mark under a tag of which no command is open
abbrev pub unasked : Dialogue → List ℕ → Tag → Signal → Dialogue
unasked d line tag signal = if is_report tag signal d.events then d else faulting d (reports.Unasked line)

-- a mark is for the command that was sent first of those that are open under its tag
abbrev pub heard_under : Dialogue → List ℕ → Tag → Signal → Option ℕ → Dialogue
heard_under d line tag signal None = unasked d line tag signal
heard_under d line tag signal (Some at) = at_use d at signal (slice_get d.uses at)

abbrev pub first_under : Tag → List Use → Option ℕ
first_under tag uses = position (λ u. tag_is u.tag tag) uses

abbrev pub server_answered : Dialogue → List ℕ → Option (Tag × Signal) → Dialogue
server_answered d line None = faulting d (reports.Other Server line)
server_answered d line (Some (tag, signal)) = heard_under d line tag signal (first_under tag d.uses)

-- ---- lines, one after another

abbrev pub after : Dialogue → Line → Dialogue
after d (Sends line what) = client_sent d line what
after d (Answers line what) = server_answered d line what

-- after lines, the newest first
abbrev pub after_all : Bool → List Line → Dialogue
after_all ordered [] = silence ordered
after_all ordered (line ∷ older) = after (after_all ordered older) line
