-- The client: its states, its open commands and what it counts, and what each of its calls does (this profile).
use Rattle.std.specs.Prelude.{ℕ, zero, suc, ◌-◌, ◌==◌, nat_lt, Bool, true, false, ◌&&◌, ◌||◌, not, if◌then◌else◌, Option, Some, None, List}
use Rattle.std.specs.Prelude.{[], ◌∷◌, ◌++◌, length, take, Result, Ok, Err}
use Rattle.fixed_um.specs.declared.lengths.Point.{Point}
use Rattle.fixed_um.specs.declared.frames.Frame.{Frame}
use Rattle.dme_line.specs.Kinds.{kind_of}
use Rattle.dme_line.specs.declared.tags.Tag.{Tag}
use Rattle.dme_line.specs.declared.tags.Tag.TheVariants.{Std, Event}
use Rattle.dme_line.specs.declared.commands.Kind.{Kind}
use Rattle.dme_line.specs.declared.commands.Kind.TheVariants as kind
use Rattle.dme_line.specs.declared.commands.Command.{Command}
use Rattle.dme_line.specs.declared.commands.Command.TheVariants as command
use Rattle.contact_ledger.specs.declared.acts.Act.{Act}
use Rattle.contact_ledger.specs.declared.acts.Act.TheVariants as act
use Rattle.contact_ledger.specs.declared.features.Origin.{Origin}
use Rattle.contact_ledger.specs.declared.features.Feature.{Feature}
use Rattle.dmis_program.specs.declared.features.Wanted.{Wanted}
use Rattle.dmis_program.specs.Meaning.{Meaning as Program}
use Rattle.protocol_model.specs.Replies.{Mark, tag_is}
use Rattle.protocol_model.specs.Open.{Effect, Heard, heard_in, count_open, is_asking, is_held}
use Rattle.protocol_model.specs.Plan.{plan, is_empty}
use Rattle.protocol_model.specs.declared.states.State.{State}
use Rattle.protocol_model.specs.declared.lines.Line.{Line}
use Rattle.protocol_model.specs.declared.states.Cause.{Cause}
use Rattle.protocol_model.specs.declared.held.Datum.{Datum}
use Rattle.protocol_model.specs.declared.held.Datum.TheVariants as datum
use Rattle.protocol_model.specs.declared.held.Stage.{Stage}
use Rattle.protocol_model.specs.declared.held.OpenCommand.{OpenCommand}
use Rattle.protocol_model.specs.declared.plans.Planned.{Planned}
use Rattle.protocol_model.specs.declared.plans.Does.{Does}
use Rattle.protocol_model.specs.declared.plans.Start.{Start}

-- what a client has counted: the client's own number of the connection (0 before the first), whether a standard command has failed since
-- the plan began, whether a session was begun on the connection, the plan from its first uncounted command on and from its first unsent one
-- on, the acts of the connection, the points of the unfinished feature, the features, and how many commands of the plan are counted
pub record Tally : Type 0 where
  pub connection : ℕ
  pub failed : Bool
  pub session : Bool
  pub todo : List Planned
  pub unsent : List Planned
  pub counted : List Act
  pub points : List Point
  pub features : List Feature
  pub completed : ℕ

-- what replies change: the open commands on standard tags and on event tags, each in sending order, and the tally
pub record Table : Type 0 where
  pub standard : List OpenCommand
  pub event : List OpenCommand
  pub tally : Tally

-- the act that a counted command means, with what its data line reported: whether the machine is homed, or the point of a contact
abbrev pub act_of : Does → Option Datum → List Act
act_of Does.Nothing given = []
act_of Does.AsksHomed (Some (datum.Homed homed)) = act.HomedIs homed ∷ []
act_of Does.AsksHomed _ = []
act_of Does.Homes given = act.Homed ∷ []
act_of (Does.Moves p f) given = act.Moved p f ∷ []
act_of (Does.Changes n) given = act.Changed n ∷ []
act_of (Does.Frames f) given = act.Framed f ∷ []
act_of (Does.Touches t last) (Some (datum.Point p)) = act.Contact t.target t.dir t.tool t.frame p ∷ []
act_of (Does.Touches t last) _ = []

-- where a feature comes from whose last touch is counted: the number of that connection, and the frame of that touch
abbrev pub origin_of : ℕ → Frame → Option Origin
origin_of connection frame = Some (record { connection = connection; frame = frame })

-- features with one more: the next one that the program wants, with these points and this origin
abbrev pub joined : List Wanted → List Feature → List Point → Option Origin → List Feature
joined [] fs points origin = fs
joined (w ∷ ws) [] points origin = record { label = w.label; points = points; origin = origin } ∷ []
joined (w ∷ ws) (f ∷ fs) points origin = f ∷ joined ws fs points origin

-- a counted touch adds its point to the unfinished feature, and the last of a feature ends it
abbrev pub measured : List Wanted → Does → Option Datum → Tally → Tally
measured ws (Does.Touches t false) (Some (datum.Point p)) y = record y { points = y.points ++ p ∷ [] }
measured ws (Does.Touches t true) (Some (datum.Point p)) y =
    record y { points = []; features = joined ws y.features (y.points ++ p ∷ []) (origin_of y.connection t.frame) }
measured ws (Does.Touches t last) _ y = y
measured ws Does.Nothing given y = y
measured ws Does.AsksHomed given y = y
measured ws Does.Homes given y = y
measured ws (Does.Moves p f) given y = y
measured ws (Does.Changes n) given y = y
measured ws (Does.Frames f) given y = y

-- the command that begins a session
abbrev pub begins_session : Kind → Bool
begins_session kind.StartSession = true
begins_session _ = false

-- a counted command reported that the machine is homed
abbrev pub tells_homed : Kind → Option Datum → Bool
tells_homed kind.IsHomed (Some (datum.Homed true)) = true
tells_homed _ _ = false

-- the command that homes the machine
abbrev pub is_homing : Command → Bool
is_homing command.Home = true
is_homing _ = false

-- commands without the homing, if that is next
abbrev pub without_homing : List Planned → List Planned
without_homing [] = []
without_homing (p ∷ ps) = if is_homing p.command then ps else p ∷ ps

-- what is left of a plan: if the machine is reported to be homed, the next homing is skipped
abbrev pub passed_over : Bool → List Planned → List Planned
passed_over true ps = without_homing ps
passed_over false ps = ps

-- the next command of the plan is counted; if it reported that the machine is homed, the homing after it is skipped
abbrev pub counted_next : List Wanted → Kind → Option Datum → List Planned → Tally → Tally
counted_next ws k given [] y = y
counted_next ws k given (p ∷ todo) y =
    measured ws p.does given (record y {
      session = y.session || begins_session k;
      todo = passed_over (tells_homed k given) todo;
      unsent = passed_over (tells_homed k given) y.unsent;
      counted = y.counted ++ act_of p.does given;
      completed = suc y.completed;
    })

-- what an effect changes in the tally: nothing, that a command has failed, or the next command of the plan is counted
abbrev pub tallied : List Wanted → Effect → Tally → Tally
tallied ws Effect.Quiet y = y
tallied ws Effect.Failure y = record y { failed = true }
tallied ws (Effect.Count k given) y = counted_next ws k given y.todo y

-- the table after a reply on a standard tag
abbrev pub heard_standard : List Wanted → Table → Heard → Result Table Cause
heard_standard ws b (Ok (hs, effect)) = Ok (record { standard = hs; event = b.event; tally = tallied ws effect b.tally })
heard_standard ws b (Err cause) = Err cause

-- the table after a reply on an event tag: nothing is counted there
abbrev pub heard_event : Table → Heard → Result Table Cause
heard_event b (Ok (hs, effect)) = Ok (record { standard = b.standard; event = hs; tally = b.tally })
heard_event b (Err cause) = Err cause

-- the table after a reply on a tag of either sort; on standard tags nothing is at the front once a command has failed
abbrev pub heard_on : List Wanted → Table → Tag → Mark → Result Table Cause
heard_on ws b (Std n) m = heard_standard ws b (heard_in (not b.tally.failed) b.standard (Std n) m)
heard_on ws b (Event n) m = heard_event b (heard_in true b.event (Event n) m)

-- a client: its program, how many commands may be open, whether it is on a connection and the number of the last one, its state and why it
-- is Faulted, what replies change, the numbers of the tags drawn last, and the tag of the abort that was sent last
pub record Client : Type 0 where
  pub program : Program
  pub window : ℕ
  pub on : Bool
  pub last : ℕ
  pub state : State
  pub cause : Option Cause
  pub table : Table
  pub drawn : ℕ
  pub event_drawn : ℕ
  pub abort : Option Tag

-- nothing counted on the connection of this number; these features are held
abbrev pub no_tally : ℕ → List Feature → Tally
no_tally n fs =
    record {
      connection = n;
      failed = false;
      session = false;
      todo = [];
      unsent = [];
      counted = [];
      points = [];
      features = fs;
      completed = 0;
    }

-- a client that was never on a connection
abbrev pub new_client : Program → List Feature → ℕ → Client
new_client p fs window = record {
  program = p;
  window = window;
  on = false;
  last = 0;
  state = State.Apart;
  cause = None;
  table = record { standard = []; event = []; tally = no_tally 0 fs };
  drawn = 0;
  event_drawn = 0;
  abort = None;
}

-- what was read is unexpected, or all tags are held: the client is Faulted, and knows why
abbrev pub faulted : Cause → Client → Client
faulted cause c = record c { state = State.Faulted; cause = Some cause }

-- the state in which a client may connect
abbrev pub is_apart : State → Bool
is_apart State.Apart = true
is_apart _ = false

-- on a new connection: the plan for what is left, nothing open, nothing counted
abbrev pub client_connected : ℕ → Client → Client
client_connected n c =
    let steps : List Planned = plan c.program (length c.table.tally.features) Start.NewConnection in
    record {
      program = c.program;
      window = c.window;
      on = true;
      last = n;
      state = State.Running;
      cause = None;
      table = record { standard = []; event = []; tally = record (no_tally n c.table.tally.features) { todo = steps; unsent = steps } };
      drawn = 0;
      event_drawn = 0;
      abort = None;
    }

-- the first number from here on that is not held, of that many
abbrev pub first_free : (ℕ → Tag) → List OpenCommand → ℕ → ℕ → Option ℕ
first_free sort hs n zero = None
first_free sort hs n (suc left) = elim (is_held (sort n) hs) [ true ↦ first_free sort hs (suc n) left | false ↦ Some n ]

-- the first number that is there
abbrev pub or_else : Option ℕ → Option ℕ → Option ℕ
or_else None other = other
or_else (Some n) other = Some n

-- numbers are drawn one after another up to 9,999, and again from 1 on, passing over those that are held
abbrev pub next_number : (ℕ → Tag) → List OpenCommand → ℕ → Option ℕ
next_number sort hs drawn = or_else (first_free sort hs (suc drawn) (9999 - drawn)) (first_free sort hs 1 9999)

-- the command that ends the error state
abbrev pub is_clearing : Command → Bool
is_clearing command.ClearAllErrors = true
is_clearing _ = false

-- a command may go if fewer than window are open, and ClearAllErrors only if none is open
abbrev pub may_go : ℕ → ℕ → Command → Bool
may_go window open_now c = nat_lt open_now window && (not (is_clearing c) || (open_now == 0))

-- the first command of a plan, if it may go with that many open
abbrev pub first_due : ℕ → ℕ → List Planned → Option Planned
first_due window open_now [] = None
first_due window open_now (p ∷ ps) = if may_go window open_now p.command then Some p else None

-- the state in which commands are due
abbrev pub is_running : State → Bool
is_running State.Running = true
is_running _ = false

-- the command that is to be sent next, if one is due; none is while it is asked whether the machine is homed
abbrev pub due : Client → Option Planned
due c =
    if is_running c.state && not (is_asking c.table.standard) then first_due c.window (count_open c.table.standard) c.table.tally.unsent
    else None

-- a client and the lines that it writes
pub record Sends : Type 0 where
  pub client : Client
  pub lines : List Line

-- a command that was just sent
abbrev pub held_now : Tag → Kind → OpenCommand
held_now t k = record { tag = t; kind = k; stage = Stage.Sent }

-- the first unsent command is sent under this number; without one the client is Faulted
abbrev pub sends_next : Client → List Planned → Option ℕ → Sends
sends_next c [] number = record { client = c; lines = [] }
sends_next c (p ∷ ps) None = record { client = faulted Cause.TagsSpent c; lines = [] }
sends_next c (p ∷ ps) (Some n) = record {
  client = record c {
    table = record (c.table) {
      standard = c.table.standard ++ held_now (Std n) (kind_of p.command) ∷ [];
      tally = record (c.table.tally) { unsent = ps };
    };
    drawn = n;
  };
  lines = record { tag = Std n; command = p.command } ∷ [];
}

-- the command that is due is sent under a new tag
abbrev pub client_sent : Client → Sends
client_sent c = sends_next c c.table.tally.unsent (next_number Std c.table.standard c.drawn)

-- an abort is sent under this number; without one the client is Faulted
abbrev pub sends_abort : Client → Option ℕ → Sends
sends_abort c None = record { client = faulted Cause.TagsSpent c; lines = [] }
sends_abort c (Some n) = record {
  client = record c {
    state = State.Aborting;
    table = record (c.table) { event = c.table.event ++ held_now (Event n) kind.AbortE ∷ [] };
    event_drawn = n;
    abort = Some (Event n);
  };
  lines = record { tag = Event n; command = command.AbortE } ∷ [];
}

-- the states in which a client may abort
abbrev pub may_abort : State → Bool
may_abort State.Running = true
may_abort State.Failing = true
may_abort _ = false

-- an abort is sent under a new event tag
abbrev pub client_aborted : Client → Sends
client_aborted c = sends_abort c (next_number Event c.table.event c.event_drawn)

-- the whole plan is counted, and no event command is open
abbrev pub is_whole : Table → Bool
is_whole b = is_empty b.tally.todo && (count_open b.event == 0)

-- a reply ends an abort: the end or an error of the command that began it
abbrev pub ends_abort : Option Tag → Tag → Mark → Bool
ends_abort None t m = false
ends_abort (Some a) t Mark.Ack = false
ends_abort (Some a) t (Mark.Given d) = false
ends_abort (Some a) t Mark.Done = tag_is a t
ends_abort (Some a) t Mark.Error = tag_is a t

-- first a failure or the end of the abort; the arguments: the reply ends the abort, a standard command has failed
abbrev pub first_state : State → Bool → Bool → State
first_state State.Running ends true = State.Failing
first_state State.Running ends false = State.Running
first_state State.Aborting true failed = State.Failing
first_state State.Aborting false failed = State.Aborting
first_state State.Apart ends failed = State.Apart
first_state State.Failing ends failed = State.Failing
first_state State.Halted ends failed = State.Halted
first_state State.Done ends failed = State.Done
first_state State.Faulted ends failed = State.Faulted

-- then the end of the plan, or of all that was open after a failure
abbrev pub last_state : State → Bool → ℕ → State
last_state State.Running whole open_now = if whole then State.Done else State.Running
last_state State.Failing whole open_now = if whole then State.Done else if open_now == 0 then State.Halted else State.Failing
last_state State.Apart whole open_now = State.Apart
last_state State.Aborting whole open_now = State.Aborting
last_state State.Halted whole open_now = State.Halted
last_state State.Done whole open_now = State.Done
last_state State.Faulted whole open_now = State.Faulted

-- the state after a reply, by whether the reply ended an abort
abbrev pub state_behind : State → Bool → Table → State
state_behind state ends b = last_state (first_state state ends b.tally.failed) (is_whole b) (count_open b.standard)

-- a client with the table that a reply leaves, or Faulted
abbrev pub client_hears : Client → Tag → Mark → Result Table Cause → Client
client_hears c t m (Ok b) = record c { table = b; state = state_behind c.state (ends_abort c.abort t m) b }
client_hears c t m (Err cause) = faulted cause c

-- a reply is read
abbrev pub client_read : Client → Tag → Mark → Client
client_read c t m = if tag_is t (Event 0) then c else client_hears c t m (heard_on c.program.features c.table t m)

-- the state in which a client may resume, where a session was begun on its connection
abbrev pub may_resume : Client → State → Bool
may_resume c State.Halted = c.table.tally.session
may_resume c _ = false

-- measuring continues after the last completed feature, on the same connection
abbrev pub client_resumed : Client → Client
client_resumed c =
    let steps : List Planned = plan c.program (length c.table.tally.features) Start.SameConnection in
    record c {
      state = State.Running;
      table = record (c.table) {
        tally = record
            (c.table.tally) { failed = false; todo = steps; unsent = steps; points = []; completed = 0 };
      };
    }

-- what has been measured whole stays Done; all else is begun again
abbrev pub left_state : State → State
left_state State.Done = State.Done
left_state _ = State.Apart

-- the connection is left, and the points of the unfinished feature are discarded
abbrev pub client_left : Client → Client
client_left c = record c {
  on = false;
  state = left_state c.state;
  cause = None;
  table = record (c.table) { tally = record (c.table.tally) { points = [] } };
}

-- a new client with the first k features, for which the earlier connection numbers still count
abbrev pub client_restarted : ℕ → Client → Client
client_restarted k c =
    let fs : List Feature = take k c.table.tally.features in
    record (new_client c.program fs c.window) {
      last = c.last;
      table = record { standard = []; event = []; tally = no_tally c.last fs };
    }
