-- Examples: scripts of events where lines are values, played with a simulated machine, and what they report (this profile).
-- No theorem cites these definitions: they show what the others give on small programs.
use Rattle.std.specs.Prelude.{ℕ, zero, suc, pos, if◌then◌else◌, Option, Some, None, List, [], ◌∷◌, ◌++◌, length, drop, codes}
use Rattle.fixed_um.specs.Points.{point_sum}
use Rattle.fixed_um.specs.Shapes.{Direction}
use Rattle.fixed_um.specs.declared.lengths.Point.{Point}
use Rattle.fixed_um.specs.declared.frames.Frame.{Frame}
use Rattle.fixed_um.specs.declared.frames.Frame.TheVariants as frame
use Rattle.dme_line.specs.declared.tags.Tag.TheVariants.{Std}
use Rattle.dme_line.specs.declared.commands.Kind.{Kind}
use Rattle.contact_ledger.specs.declared.features.Feature.{Feature}
use Rattle.dmis_program.specs.Meaning.{Meaning as Program, meaning_with, touch_with}
use Rattle.dmis_program.specs.declared.features.Touch.{Touch}
use Rattle.dmis_program.specs.declared.steps.Step.{Step}
use Rattle.dmis_program.specs.declared.steps.Step.TheVariants as step
use Rattle.protocol_model.specs.Replies.{Reply}
use Rattle.protocol_model.specs.Claims.{MadeContact, contacts}
use Rattle.protocol_model.specs.Server.{in_volume, running_job}
use Rattle.protocol_model.specs.Typed.{World, Event, start, after}
use Rattle.protocol_model.specs.declared.states.State.{State}
use Rattle.protocol_model.specs.declared.lines.Line.{Line}
use Rattle.protocol_model.specs.declared.held.Stage.{Stage}
use Rattle.protocol_model.specs.declared.held.OpenCommand.{OpenCommand}
use Rattle.protocol_model.specs.declared.machine.Job.{Job}
use Rattle.protocol_model.specs.declared.machine.Outcome.{Outcome}
use Rattle.protocol_model.specs.Examples.{along, at, failed, from_above, neg, part, tool}

-- ---- programs

-- a touch with that tool in a frame
abbrev pub touch : Frame → Point → Option Direction → Step
touch f p d = step.Touch (touch_with tool f p d)

-- the program without statements
abbrev pub empty : Program
empty = meaning_with []

-- a move and a touch
abbrev pub one_point : Program
one_point = meaning_with (
    step.Tool tool
    ∷ step.Begin (codes "A") ∷ step.Goto (at (pos 10000) (pos 20000) (pos 30000))
    ∷ touch frame.Machine (at (pos 10000) (pos 20000) (pos 25000)) from_above ∷ step.End
    ∷ [])

-- three touches around a circle
abbrev pub circle : Program
circle = meaning_with (
    step.Tool tool
    ∷ step.Begin (codes "C")
    ∷ touch frame.Machine (at (pos 1000) (pos 0) (pos 0)) (along (neg 1000000) (pos 0) (pos 0))
    ∷ touch frame.Machine (at (pos 0) (pos 1000) (pos 0)) (along (pos 0) (neg 1000000) (pos 0))
    ∷ touch frame.Machine (at (neg 1000) (pos 0) (pos 0)) (along (pos 1000000) (pos 0) (pos 0)) ∷ step.End
    ∷ [])

-- a point, and a line whose second touch is in the stored frame
abbrev pub two_frames : Program
two_frames = meaning_with (
    step.Tool tool
    ∷ step.Begin (codes "A") ∷ touch frame.Machine (at (pos 10000) (pos 0) (pos 0)) from_above ∷ step.End
    ∷ step.Begin (codes "B") ∷ touch frame.Machine (at (pos 20000) (pos 0) (pos 0)) from_above ∷ step.Recall part
    ∷ touch (frame.Part part) (at (pos 30000) (pos 0) (pos 0)) from_above ∷ step.End
    ∷ [])

-- two features of one point each
abbrev pub two_points : Program
two_points = meaning_with (
    step.Tool tool
    ∷ step.Begin (codes "A") ∷ touch frame.Machine (at (pos 1000) (pos 2000) (pos 3000)) from_above ∷ step.End
    ∷ step.Begin (codes "B") ∷ touch frame.Machine (at (pos 4000) (pos 5000) (pos 6000)) from_above ∷ step.End
    ∷ [])

-- a feature of two touches that are alike
abbrev pub same_twice : Program
same_twice = meaning_with (
    step.Tool tool
    ∷ step.Begin (codes "A") ∷ touch frame.Machine (at (pos 10000) (pos 0) (pos 0)) from_above
    ∷ touch frame.Machine (at (pos 10000) (pos 0) (pos 0)) from_above ∷ step.End
    ∷ [])

-- ---- the machine

-- how far from its target a touch meets a surface, by the number of the contact: three shifts, again and again
abbrev pub shift : ℕ → Point
shift zero = at (pos 2) (pos 0) (pos 0)
shift (suc zero) = at (pos 0) (pos 0) (pos 4)
shift (suc (suc zero)) = at (neg 1) (pos 1) (pos 0)
shift (suc (suc (suc n))) = shift n

-- a touch within the volume meets a surface
abbrev pub met : Point → Outcome
met p = if in_volume p then Outcome.Touched p else Outcome.Missed

-- how the simulated machine ends a job
abbrev pub simulated : ℕ → Job → Outcome
simulated n Job.Home = Outcome.Done
simulated n (Job.Move p) = Outcome.Done
simulated n (Job.Touch p d) = met (point_sum p (shift n))
simulated n (Job.Change t) = Outcome.Done

-- ---- scripts

-- a world, and all lines that were written and answered on the client's connections
pub record Play : Type 0 where
  pub world : World
  pub wrote : List Line
  pub said : List Reply

-- a line of a script: an event, the outcome of the simulated machine if something runs, the server or the client reads all that is there,
-- or that many quiet rounds
pub data Cue : Type 0 where
  On : Event → Cue
  Auto : Cue
  ServerReadsAll : Cue
  ClientReadsAll : Cue
  Quiet : ℕ → Cue

-- what an event adds to the way up was written, and what it adds to the way down was answered
abbrev pub noted : Play → World → Play
noted p w = record { world = w; wrote = p.wrote ++ drop (length p.world.up) w.up; said = p.said ++ drop (length p.world.down) w.down }

-- an event, if it can happen
abbrev pub happening : Event → Play → Play
happening e p = noted p (after e p.world)

-- the same, that many times
abbrev pub repeated : ℕ → (Play → Play) → Play → Play
repeated zero does p = p
repeated (suc n) does p = repeated n does (does p)

-- the job that runs is ended by the simulated machine
abbrev pub ended : Option Job → Play → Play
ended None p = p
ended (Some job) p = happening (Event.Machine (simulated (length (contacts p.world.server.ledger)) job)) p

-- what runs is ended by the simulated machine
abbrev pub machine_ends : Play → Play
machine_ends p = ended (running_job p.world.server) p

-- the server reads all lines that are there
abbrev pub the_server_reads_all : Play → Play
the_server_reads_all p = repeated (length p.world.up) (happening Event.ServerReads) p

-- the client reads all replies that are there
abbrev pub the_client_reads_all : Play → Play
the_client_reads_all p = repeated (length p.world.down) (happening Event.ClientReads) p

-- the client sends all that is due
abbrev pub sending : Play → Play
sending p = repeated p.world.client.window (happening Event.ClientSends) p

-- what runs and what waits is done
abbrev pub serving : Play → Play
serving p = repeated (length p.world.server.waiting) (λ q. machine_ends (happening Event.ServerTurn q)) (machine_ends p)

-- the client sends all that is due, the server reads it all and does it all, and the client reads all
abbrev pub round : Play → Play
round p = the_client_reads_all (serving (the_server_reads_all (sending p)))

-- what a line of a script does
abbrev pub cued : Cue → Play → Play
cued (Cue.On e) p = happening e p
cued Cue.Auto p = machine_ends p
cued Cue.ServerReadsAll p = the_server_reads_all p
cued Cue.ClientReadsAll p = the_client_reads_all p
cued (Cue.Quiet n) p = repeated n round p

-- a script from here on
abbrev pub played : List Cue → Play → Play
played [] p = p
played (c ∷ cs) p = played cs (cued c p)

-- a script, played with a new client that has this program and this window, and a new server with two tools
abbrev pub play : Program → ℕ → List Cue → Play
play p window script = played script (record { world = start p (codes "P1" ∷ codes "P2" ∷ []) window; wrote = []; said = [] })

-- the lines that are written, or answered, during a script after another
abbrev pub wrote_behind : Play → List Cue → List Line
wrote_behind p script = drop (length p.wrote) (played script p).wrote

-- the lines that are answered during a script after another
abbrev pub said_behind : Play → List Cue → List Reply
said_behind p script = drop (length p.said) (played script p).said

-- the lines of a script, one for each event and each of the other cues
abbrev pub connect : Cue
connect = Cue.On Event.Connect

abbrev pub accept : ℕ → Cue
accept n = Cue.On (Event.Accept n)

abbrev pub client_sends : Cue
client_sends = Cue.On Event.ClientSends

abbrev pub server_reads : Cue
server_reads = Cue.On Event.ServerReads

abbrev pub server_turn : Cue
server_turn = Cue.On Event.ServerTurn

abbrev pub machine : Outcome → Cue
machine outcome = Cue.On (Event.Machine outcome)

abbrev pub auto : Cue
auto = Cue.Auto

abbrev pub client_reads : Cue
client_reads = Cue.On Event.ClientReads

abbrev pub server_reads_all : Cue
server_reads_all = Cue.ServerReadsAll

abbrev pub client_reads_all : Cue
client_reads_all = Cue.ClientReadsAll

abbrev pub client_leaves : Cue
client_leaves = Cue.On Event.ClientLeaves

abbrev pub server_leaves : Cue
server_leaves = Cue.On Event.ServerLeaves

abbrev pub abort : Cue
abort = Cue.On Event.Abort

abbrev pub resume : Cue
resume = Cue.On Event.Resume

abbrev pub client_restart : ℕ → Cue
client_restart k = Cue.On (Event.ClientRestart k)

abbrev pub server_restart : Cue
server_restart = Cue.On Event.ServerRestart

abbrev pub quiet : ℕ → Cue
quiet n = Cue.Quiet n

-- more rounds than any of these programs has commands: the last of them change nothing
abbrev pub quiet_to_the_end : Cue
quiet_to_the_end = Cue.Quiet 20

-- both ends are on the first connection
abbrev pub opened : List Cue
opened = connect ∷ accept 1 ∷ []

-- that many quiet rounds on the first connection; then the next command is sent and read and is processed
abbrev pub at_its_turn : ℕ → List Cue
at_its_turn n = connect ∷ accept 1 ∷ quiet n ∷ client_sends ∷ server_reads ∷ server_turn ∷ []

-- with a window of three: a tool change runs, and two touches wait after it
abbrev pub change_while_two_wait : List Cue
change_while_two_wait = connect ∷ accept 1 ∷ quiet 3 ∷ client_sends ∷ client_sends ∷ client_sends ∷ server_reads_all ∷ server_turn ∷ []

-- with a window of four: the second touch runs, the third waits, and the end of the session is on its way
abbrev pub touch_while_one_waits : List Cue
touch_while_one_waits = connect ∷ accept 1 ∷ quiet 3 ∷ client_sends ∷ client_sends ∷ client_sends ∷ server_reads_all ∷ server_turn ∷ auto
    ∷ server_turn ∷ client_reads_all ∷ client_sends ∷ []

-- ---- reports

-- a contact as it is reported: its number, its connection, and the reported point
pub record Reported : Type 0 where
  pub number : ℕ
  pub connection : ℕ
  pub point : Point

-- what a world reports: the client's state, how many acts it has counted, its features, and the server's contacts
pub record Report : Type 0 where
  pub state : State
  pub counted : ℕ
  pub features : List Feature
  pub contacts : List Reported

-- contacts with their numbers, from one on
abbrev pub numbered : ℕ → List MadeContact → List Reported
numbered n [] = []
numbered n (m ∷ ms) = record { number = n; connection = m.connection; point = m.point } ∷ numbered (suc n) ms

-- the report of a world
abbrev pub report_of : World → Report
report_of w = record {
  state = w.client.state;
  counted = length w.client.table.tally.counted;
  features = w.client.table.tally.features;
  contacts = numbered 0 (contacts w.server.ledger);
}

-- the report of a script
abbrev pub reported : Program → ℕ → List Cue → Report
reported p window script = report_of (play p window script).world

-- reports, features and contacts as they are reported
abbrev pub report : State → ℕ → List Feature → List Reported → Report
report state counted features contacts = record { state = state; counted = counted; features = features; contacts = contacts }

-- a contact: its number, its connection and its point
abbrev pub contact : ℕ → ℕ → Point → Reported
contact number connection point = record { number = number; connection = connection; point = point }

-- commands under that many tags, from one on, are received, or fail for another's sake
abbrev pub acks_under : ℕ → ℕ → List Reply
acks_under n zero = []
acks_under n (suc more) = Reply.Ack (Std n) ∷ acks_under (suc n) more

-- commands of one kind under that many tags, from one on, fail for the sake of another
abbrev pub failed_under : Kind → ℕ → ℕ → List Reply
failed_under kind n zero = []
failed_under kind n (suc more) = failed n 9007 kind ++ failed_under kind (suc n) more

-- a command that is open under a standard tag
abbrev pub held_at : ℕ → Kind → Stage → OpenCommand
held_at n kind stage = record { tag = Std n; kind = kind; stage = stage }
