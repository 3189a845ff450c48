-- The server: its state, and the lines and the act with which it answers each call, case by case (this profile).
use Rattle.std.specs.Prelude.{ℕ, nat_le, Bool, true, false, ◌&&◌, ◌||◌, not, if◌then◌else◌, Option, Some, None, is_none, List, [], ◌∷◌}
use Rattle.std.specs.Prelude.{◌++◌, length, unsigned_abs, bytes_eq, Result, Ok, Err}
use Rattle.std.specs.List.{list_any}
use Rattle.fixed_um.specs.Limits.{volume_limit}
use Rattle.fixed_um.specs.Points.{zero_point, point_sum, point_difference, point_opposite}
use Rattle.fixed_um.specs.declared.lengths.Point.{Point}
use Rattle.fixed_um.specs.declared.frames.Frame.{Frame}
use Rattle.fixed_um.specs.declared.frames.Frame.TheVariants.{Machine, Part}
use Rattle.dme_line.specs.Kinds.{kind_of}
use Rattle.dme_line.specs.Tags.{is_event_tag}
use Rattle.dme_line.specs.declared.tags.Tag.{Tag}
use Rattle.dme_line.specs.declared.tags.Tag.TheVariants.{Event}
use Rattle.dme_line.specs.declared.commands.Csy.{Csy}
use Rattle.dme_line.specs.declared.commands.Csy.TheVariants.{MachineCsy, PartCsy}
use Rattle.dme_line.specs.declared.commands.Kind.{Kind}
use Rattle.dme_line.specs.declared.commands.Command.{Command}
use Rattle.dme_line.specs.declared.commands.Command.TheVariants as command
use Rattle.contact_ledger.specs.declared.acts.Act.{Act}
use Rattle.contact_ledger.specs.declared.acts.Act.TheVariants as act
use Rattle.protocol_model.specs.Replies.{Reading, Reply, tag_is}
use Rattle.dme_line.specs.declared.reading.LineFault.TheVariants as fault
use Rattle.protocol_model.specs.declared.held.Datum.TheVariants as datum
use Rattle.protocol_model.specs.declared.machine.Job.{Job}
use Rattle.protocol_model.specs.declared.machine.Outcome.{Outcome}
use Rattle.protocol_model.specs.declared.lines.Misread.{Misread}
use Rattle.protocol_model.specs.declared.lines.Misread.TheVariants as misread
use Rattle.protocol_model.specs.declared.lines.Waiting.{Waiting}
use Rattle.protocol_model.specs.declared.lines.Line.{Line}

-- a server: the tools of its rack, whether it is on a connection and the number of the last one, session, homing, tool, frame, stored
-- offset,
-- error state, the running command, the waiting ones, and the acts with their connections
pub record Server : Type 0 where
  pub rack : List (List ℕ)
  pub on : Bool
  pub last : ℕ
  pub session : Bool
  pub homed : Bool
  pub tool : Option (List ℕ)
  pub frame : Frame
  pub stored : Point
  pub error : Bool
  pub running : Option Line
  pub waiting : List Waiting
  pub ledger : List (ℕ × Act)

-- a server and the lines that it answers
pub record Answer : Type 0 where
  pub server : Server
  pub said : List Reply

-- a server that answers these lines
abbrev pub answers : Server → List Reply → Answer
answers s said = record { server = s; said = said }

-- a server that was never on a connection
abbrev pub new_server : List (List ℕ) → Server
new_server rack = record {
  rack = rack;
  on = false;
  last = 0;
  session = false;
  homed = false;
  tool = None;
  frame = Machine;
  stored = zero_point;
  error = false;
  running = None;
  waiting = [];
  ledger = [];
}

-- the name in an error text: that of the command, if it is known
abbrev pub kind_in : Result Command Misread → Option Kind
kind_in (Ok c) = Some (kind_of c)
kind_in (Err misread.UnknownCommand) = None
kind_in (Err (misread.BadArguments k)) = Some k

-- a command fails with a number: an error, and its end
abbrev pub fails : Tag → ℕ → Option Kind → List Reply
fails t code name = Reply.Error t code name ∷ Reply.Done t ∷ []

-- each waiting command fails, in order
abbrev pub all_fail : ℕ → List Waiting → List Reply
all_fail code [] = []
all_fail code (w ∷ ws) = fails w.tag code (kind_in w.reading) ++ all_fail code ws

-- the error state is entered: nothing waits any more
abbrev pub in_error : Server → Server
in_error s = record s { error = true; waiting = [] }

-- a command joins what waits
abbrev pub queued : Tag → Result Command Misread → Server → Server
queued t reading s = record s { waiting = s.waiting ++ record { tag = t; reading = reading } ∷ [] }

-- an act is done on the present connection
abbrev pub acted : Act → Server → Server
acted a s = record s { ledger = s.ledger ++ (s.last, a) ∷ [] }

-- ---- connections

-- a connection is taken, by its number
abbrev pub server_accepted : ℕ → Server → Server
server_accepted n s = record s { on = true; last = n }

-- all that belongs to the connection is discarded
abbrev pub server_left : Server → Server
server_left s = record s { on = false; session = false; frame = Machine; stored = zero_point; error = false; running = None; waiting = [] }

-- a restarted server also forgets its homing and its tool
abbrev pub server_restarted : Server → Server
server_restarted s = record (server_left s) { homed = false; tool = None }

-- ---- a line is read

-- a command runs under this tag
abbrev pub runs_under : Tag → Option Line → Bool
runs_under t None = false
runs_under t (Some line) = tag_is line.tag t

-- a command waits under this tag
abbrev pub waits_under : Tag → List Waiting → Bool
waits_under t [] = false
waits_under t (w ∷ ws) = tag_is w.tag t || waits_under t ws

-- the command that aborts
abbrev pub is_abort : Result Command Misread → Bool
is_abort (Ok command.AbortE) = true
is_abort (Ok _) = false
is_abort (Err refused) = false

-- the command that ends the error state
abbrev pub is_clear : Result Command Misread → Bool
is_clear (Ok command.ClearAllErrors) = true
is_clear (Ok _) = false
is_clear (Err refused) = false

-- the number of the error for what was read under a tag and is not a command
abbrev pub fault_number : Misread → ℕ
fault_number misread.UnknownCommand = 9003
fault_number (misread.BadArguments k) = 9004

-- the running command, if any, stops with 9007
abbrev pub running_fails : Option Line → List Reply
running_fails None = []
running_fails (Some line) = fails line.tag 9007 (Some (kind_of line.command))

-- an abort: what runs and what waits fails, the error state is entered, and the abort ends
abbrev pub aborted : Server → Tag → Answer
aborted s t =
    answers (record (in_error s) { running = None })
    (Reply.Ack t ∷ (running_fails s.running ++ (all_fail 9007 s.waiting ++ Reply.Done t ∷ [])))

-- a standard command, or a faulty line on a standard tag: refused in the error state, which ClearAllErrors ends; refused where 64 wait;
-- else queued
abbrev pub stands : Server → Tag → Result Command Misread → Answer
stands s t reading =
    if s.error && not (is_clear reading) then answers s (Reply.Ack t ∷ fails t 9008 (kind_in reading))
    else if s.error then answers (queued t reading (record s { error = false })) (Reply.Ack t ∷ [])
    else if nat_le 64 (length s.waiting) then answers (in_error s)
    (Reply.Ack t ∷ (fails t 9009 (kind_in reading) ++ all_fail 9007 s.waiting))
    else answers (queued t reading s) (Reply.Ack t ∷ [])

-- a line under a tag that is not in use: an abort, a faulty line on an event tag, or a standard one
abbrev pub fresh : Server → Tag → Result Command Misread → Answer
fresh s t (Ok c) = if is_abort (Ok c) then aborted s t else stands s t (Ok c)
fresh s t (Err why) =
    if is_event_tag t then answers s (Reply.Ack t ∷ fails t (fault_number why) (kind_in (Err why)))
    else stands s t (Err why)

-- a line with a tag: refused if a command under it runs or waits
abbrev pub tagged : Server → Tag → Result Command Misread → Answer
tagged s t reading =
    if runs_under t s.running || waits_under t s.waiting then answers s (Reply.Error (Event 0) 9002 None ∷ [])
    else fresh s t reading

-- what is answered to a line that was read; a line without a tag is answered on the event tag number 0
abbrev pub server_read : Server → Reading → Answer
server_read s (Err fault.NoTag) = answers s (Reply.Error (Event 0) 9001 None ∷ [])
server_read s (Err (fault.UnknownCommand t)) = tagged s t (Err misread.UnknownCommand)
server_read s (Err (fault.BadArguments t k)) = tagged s t (Err (misread.BadArguments k))
server_read s (Ok line) = tagged s line.tag (Ok line.command)

-- ---- the first waiting command is processed

-- where a frame has its zero point on the machine
abbrev pub offset : Frame → Point
offset Machine = zero_point
offset (Part p) = p

-- a point that the machine can reach
abbrev pub in_volume : Point → Bool
in_volume p = nat_le (unsigned_abs p.x) volume_limit && (nat_le (unsigned_abs p.y) volume_limit && nat_le (unsigned_abs p.z) volume_limit)

-- the command that opens a session
abbrev pub opens : Command → Bool
opens command.StartSession = true
opens _ = false

-- the commands that a session must be open for
abbrev pub wants_session : Command → Bool
wants_session command.StartSession = false
wants_session command.ClearAllErrors = false
wants_session _ = true

-- the commands that the machine must be homed for
abbrev pub wants_home : Command → Bool
wants_home (command.GoTo p) = true
wants_home (command.PtMeas p d) = true
wants_home (command.ChangeTool n) = true
wants_home _ = false

-- a change to a tool that is not in the rack
abbrev pub lacks_tool : List (List ℕ) → Command → Bool
lacks_tool rack (command.ChangeTool n) = not (list_any (λ m. bytes_eq m n) rack)
lacks_tool rack _ = false

-- a touch without a tool
abbrev pub has_no_tool : Option (List ℕ) → Command → Bool
has_no_tool tool (command.PtMeas p d) = is_none tool
has_no_tool tool _ = false

-- a target, in this frame, that the machine cannot reach
abbrev pub leaves_volume : Frame → Command → Bool
leaves_volume f (command.GoTo p) = not (in_volume (point_sum p (offset f)))
leaves_volume f (command.PtMeas p d) = not (in_volume (point_sum p (offset f)))
leaves_volume f _ = false

-- the number of the first check that fails
abbrev pub first_failing : List (Bool × ℕ) → Option ℕ
first_failing [] = None
first_failing ((fails, number) ∷ checks) = if fails then Some number else first_failing checks

-- the checks of a command at its turn, in order, each with its number: a session is wanted, a session is open, homing is wanted, the tool
-- is unknown, no tool is there, the target cannot be reached
abbrev pub checks : Server → Command → List (Bool × ℕ)
checks s c =
    (wants_session c && not s.session, 9005) ∷ (opens c && s.session, 9006) ∷ (wants_home c && not s.homed, 9010)
    ∷ (lacks_tool s.rack c, 9012) ∷ (has_no_tool s.tool c, 9011) ∷ (leaves_volume s.frame c, 9013) ∷ []

-- the number with which what waits is refused at its turn, if it is
abbrev pub refusal : Server → Result Command Misread → Option ℕ
refusal s (Err why) = Some (fault_number why)
refusal s (Ok c) = first_failing (checks s c)

-- the frame that a coordinate system selects
abbrev pub frame_of : Csy → Point → Frame
frame_of MachineCsy stored = Machine
frame_of PartCsy stored = Part stored

-- a command runs from now on, and its end is answered later
abbrev pub starts_running : Server → Tag → Command → Answer
starts_running s t c = answers (record s { running = Some (record { tag = t; command = c }) }) []

-- what a command does at its turn: some are complete at once, the others run
abbrev pub carried_out : Server → Tag → Command → Answer
carried_out s t command.StartSession = answers (record s { session = true }) (Reply.Done t ∷ [])
carried_out s t command.EndSession = answers (record s { session = false }) (Reply.Done t ∷ [])
carried_out s t command.ClearAllErrors = answers s (Reply.Done t ∷ [])
carried_out s t command.OnPtMeasReport = answers s (Reply.Done t ∷ [])
carried_out s t command.IsHomed = answers (acted (act.HomedIs s.homed) s) (Reply.Given t (datum.Homed s.homed) ∷ Reply.Done t ∷ [])
carried_out s t (command.SetCsyTransformation p) = answers (record s { stored = point_opposite p }) (Reply.Done t ∷ [])
carried_out s t (command.SetCoordSystem system) =
    answers (acted (act.Framed (frame_of system s.stored)) (record s { frame = frame_of system s.stored })) (Reply.Done t ∷ [])
carried_out s t command.Home = starts_running (record s { homed = false }) t command.Home
carried_out s t (command.ChangeTool n) = starts_running (record s { tool = None }) t (command.ChangeTool n)
carried_out s t (command.GoTo p) = starts_running s t (command.GoTo p)
carried_out s t (command.PtMeas p d) = starts_running s t (command.PtMeas p d)
carried_out s t command.AbortE = answers s []

-- what waits is carried out
abbrev pub carried : Server → Tag → Result Command Misread → Answer
carried s t (Ok c) = carried_out s t c
carried s t (Err refused) = answers s []

-- a command that is refused at its turn fails with the number of the check, and all that wait fail with 9007
abbrev pub taken : Server → Waiting → List Waiting → Option ℕ → Answer
taken s w ws (Some number) = answers (in_error s) (fails w.tag number (kind_in w.reading) ++ all_fail 9007 ws)
taken s w ws None = carried (record s { waiting = ws }) w.tag w.reading

-- the first of what waits is processed
abbrev pub turned_to : Server → List Waiting → Answer
turned_to s [] = answers s []
turned_to s (w ∷ ws) = taken s w ws (refusal s w.reading)

-- the first waiting command is processed
abbrev pub server_turned : Server → Answer
server_turned s = turned_to s s.waiting

-- ---- the machine is done with the running command

-- the running command failed: it and all that wait fail
abbrev pub stopped : Server → Line → ℕ → Answer
stopped s line number =
    answers (record (in_error s) { running = None }) (fails line.tag number (Some (kind_of line.command)) ++ all_fail 9007 s.waiting)

-- nothing runs any more
abbrev pub idle : Server → Server
idle s = record s { running = None }

-- a command other than a touch is done
abbrev pub finished : Server → Tag → Command → Answer
finished s t command.Home = answers (acted act.Homed (record (idle s) { homed = true })) (Reply.Done t ∷ [])
finished s t (command.ChangeTool n) = answers (acted (act.Changed n) (record (idle s) { tool = Some n })) (Reply.Done t ∷ [])
finished s t (command.GoTo p) = answers (acted (act.Moved p s.frame) (idle s)) (Reply.Done t ∷ [])
finished s t _ = answers s []

-- a touch: the reported point is the touched one as seen from the frame's zero point
abbrev pub touched : Server → Tag → Command → Point → Option (List ℕ) → Answer
touched s t (command.PtMeas p d) at (Some tool) =
    let point : Point = point_difference at (offset s.frame) in
    answers (acted (act.Contact p d tool s.frame point) (idle s)) (Reply.Given t (datum.Point point) ∷ Reply.Done t ∷ [])
touched s t c at tool = answers s []

-- how what runs ends: done, touched, without a surface (9014), or by a fault of the machine (9015)
abbrev pub machined : Server → Outcome → Option Line → Answer
machined s outcome None = answers s []
machined s Outcome.Done (Some line) = finished s line.tag line.command
machined s (Outcome.Touched at) (Some line) = touched s line.tag line.command at s.tool
machined s Outcome.Missed (Some line) = stopped s line 9014
machined s Outcome.Fault (Some line) = stopped s line 9015

-- the machine is done with what runs
abbrev pub server_machined : Server → Outcome → Answer
server_machined s outcome = machined s outcome s.running

-- which outcomes a running command can have: a touched point lies in the volume
abbrev pub has_outcome : Command → Outcome → Bool
has_outcome command.Home Outcome.Done = true
has_outcome (command.ChangeTool n) Outcome.Done = true
has_outcome (command.GoTo p) Outcome.Done = true
has_outcome (command.PtMeas p d) (Outcome.Touched at) = in_volume at
has_outcome (command.PtMeas p d) Outcome.Missed = true
has_outcome c Outcome.Fault = true
has_outcome c outcome = false

-- whether what runs can end so
abbrev pub may_end : Option Line → Outcome → Bool
may_end None outcome = false
may_end (Some line) outcome = has_outcome line.command outcome

-- what a command asks of the machine in a frame, its points in machine axes
abbrev pub job_of : Frame → Command → Option Job
job_of f command.Home = Some Job.Home
job_of f (command.ChangeTool n) = Some (Job.Change n)
job_of f (command.GoTo p) = Some (Job.Move (point_sum p (offset f)))
job_of f (command.PtMeas p d) = Some (Job.Touch (point_sum p (offset f)) d)
job_of f _ = None

-- the job of what runs, if anything does
abbrev pub job_run : Frame → Option Line → Option Job
job_run f None = None
job_run f (Some line) = job_of f line.command

-- what the server asks of the machine
abbrev pub running_job : Server → Option Job
running_job s = job_run s.frame s.running
