-- Both ends on one connection, and the events of a round: they stay there.
use Rattle.protocol_model.proofs.Names.{◌∙◌, ◌≡◌, ap, Bool, command_of, cond, contact_count, Down, ended, ending, Err, false, Front, front_served}
use Rattle.protocol_model.proofs.Names.{Job, next_number, next_of, None, Ok, Option, Outcome, reading_of, refl, running_job, Server, server_writes}
use Rattle.protocol_model.proofs.Names.{ServerEnd, Some, Std, subst, sym, true, Up, working, ℕ}
use Rattle.protocol_model.specs.World.{after, can, happens, World}
use Rattle.protocol_model.specs.declared.events.Event.{Event}
use Rattle.protocol_model.specs.declared.events.Event.TheVariants.{Accept, ClientSends, Connect, Machine, ServerReads, ServerTurn}
use Rattle.protocol_model.specs.declared.events.Event.TheVariants.{Abort, ClientLeaves, ClientReads, ClientRestart, Resume, ServerLeaves}
use Rattle.protocol_model.specs.declared.events.Event.TheVariants.{ServerRestart}
use Rattle.protocol_model.proofs.table.Basics.{if_true}
use Rattle.protocol_model.proofs.invariant.Moves.{read_moves, turned_moves, machined_moves}
use Rattle.protocol_model.proofs.whole_run.Carrying.{IsCarried}
use Rattle.protocol_model.proofs.whole_run.CarryingClient.{StaysOn, sends_stays}
use Rattle.protocol_model.proofs.whole_run.WholeRun.{happens_carried}
use Rattle.protocol_model.proofs.undisturbed_run.UndisturbedClient.{read_last}
use Rattle.protocol_model.proofs.quiet_run.Hears.{reads_on}
use Rattle.protocol_model.proofs.quiet_run.Jobs.{RunsJob, read_job, turned_job, machined_job}

-- what runs ends as the machine answers to its job
pub record IsEnd (answer : Job → ℕ → Outcome) (s : Server) (outcome : Outcome) : Type 0 where
  pub job : Job
  pub asked : running_job s ≡ Some job
  pub answered : outcome ≡ answer job (contact_count s.ledger)

-- an event of a round
abbrev pub IsOfRound : (Job → ℕ → Outcome) → World → Event → Type 0
IsOfRound answer w ClientSends = Unit {0}
IsOfRound answer w (Up k) = Unit {0}
IsOfRound answer w ServerReads = Unit {0}
IsOfRound answer w ServerTurn = Unit {0}
IsOfRound answer w (Machine outcome) = IsEnd answer w.server.server outcome
IsOfRound answer w (Down k) = Unit {0}
IsOfRound answer w ClientReads = Unit {0}
IsOfRound answer w Connect = ⊥
IsOfRound answer w (Accept n) = ⊥
IsOfRound answer w ClientLeaves = ⊥
IsOfRound answer w ServerLeaves = ⊥
IsOfRound answer w Abort = ⊥
IsOfRound answer w Resume = ⊥
IsOfRound answer w (ClientRestart k) = ⊥
IsOfRound answer w ServerRestart = ⊥

-- both ends are on the connection that the client made last, and what runs is a job
pub record IsJoined (b : World) : Type 0 where
  pub carried : IsCarried b
  pub on : b.server.server.on ≡ true
  pub client_on : b.client.client.on ≡ true
  pub same : b.server.server.last ≡ b.client.client.last
  pub jobs : RunsJob b.server.server.running

-- an event that can happen happens
pub after_is : (e : Event) (w : World) → can e w ≡ true → after e w ≡ happens e w
after_is e w may = if_true {A = World} (can e w) (happens e w) w may

-- what a call of the server leaves
record Serves (e f : ServerEnd) : Type 0 where
  on : f.server.on ≡ e.server.on
  last : f.server.last ≡ e.server.last
  jobs : RunsJob e.server.running → RunsJob f.server.running

front_serves : (e : ServerEnd) (f : Front) → Serves e (front_served e f)
front_serves e (Ok None) = record { on = refl; last = refl; jobs = λ h. h }
front_serves e (Ok (Some (line, rest))) =
    let moves = read_moves e.server (reading_of (command_of line)) in
    record { on = moves.on; last = moves.last; jobs = read_job e.server (reading_of (command_of line)) }
front_serves e (Err why) = record { on = refl; last = refl; jobs = λ h. h }

served_joined : (b : World) (e : ServerEnd) → IsJoined b → Serves b.server e → IsCarried (server_writes b e) → IsJoined (server_writes b e)
served_joined b e h s carried = record {
  carried = carried;
  on = s.on ∙ h.on;
  client_on = h.client_on;
  same = s.last ∙ h.same;
  jobs = s.jobs h.jobs;
}

happens_joined : (answer : Job → ℕ → Outcome) (e : Event) (b : World) → IsOfRound answer b e
    → IsJoined b → can e b ≡ true → IsJoined (happens e b)
happens_joined answer ClientSends b of h may =
    let stays : StaysOn b.client.client _ = sends_stays b.client.client b.client.client.table.tally.unsent
    (next_number Std b.client.client.table.standard b.client.client.drawn) in
    record {
      carried = happens_carried ClientSends b h.carried may;
      on = h.on;
      client_on = stays.on ∙ h.client_on;
      same = h.same ∙ sym stays.last;
      jobs = h.jobs;
    }
happens_joined answer (Up k) b of h may = record {
  carried = happens_carried (Up k) b h.carried may;
  on = h.on;
  client_on = h.client_on;
  same = h.same;
  jobs = h.jobs;
}
happens_joined answer ServerReads b of h may = served_joined b _ h (front_serves b.server (next_of b.server.input.rest))
    (happens_carried ServerReads b h.carried may)
happens_joined answer ServerTurn b of h may =
    let moves = turned_moves b.server.server in
    served_joined b _ h (record { on = moves.1.on; last = moves.1.last; jobs = turned_job b.server.server })
    (happens_carried ServerTurn b h.carried may)
happens_joined answer (Machine outcome) b of h may =
    let moves = machined_moves b.server.server outcome in
    served_joined b _ h (record { on = moves.1.on; last = moves.1.last; jobs = machined_job b.server.server outcome })
    (happens_carried (Machine outcome) b h.carried may)
happens_joined answer (Down k) b of h may = record {
  carried = happens_carried (Down k) b h.carried may;
  on = h.on;
  client_on = h.client_on;
  same = h.same;
  jobs = h.jobs;
}
happens_joined answer ClientReads b of h may = record {
  carried = happens_carried ClientReads b h.carried may;
  on = h.on;
  client_on = reads_on b.client.client (next_of b.client.input.rest) ∙ h.client_on;
  same = h.same ∙ sym (read_last b.client.client (next_of b.client.input.rest));
  jobs = h.jobs;
}
happens_joined answer Connect b of h may = absurd of
happens_joined answer (Accept n) b of h may = absurd of
happens_joined answer ClientLeaves b of h may = absurd of
happens_joined answer ServerLeaves b of h may = absurd of
happens_joined answer Abort b of h may = absurd of
happens_joined answer Resume b of h may = absurd of
happens_joined answer (ClientRestart k) b of h may = absurd of
happens_joined answer ServerRestart b of h may = absurd of

-- they stay there
pub after_joined : (answer : Job → ℕ → Outcome) (e : Event) (b : World) → IsOfRound answer b e
    → IsJoined b → IsJoined (after e b)
after_joined answer e b of h = go (can e b) refl
  where
    go : (t : Bool) → can e b ≡ t → IsJoined (cond t (happens e b) b)
    go true may = happens_joined answer e b of h may
    go false may = h

-- ---- what the server has to do

-- a turn that can be had, or the end of what runs
abbrev pub IsWork : (Job → ℕ → Outcome) → World → Event → Type 0
IsWork answer w ServerTurn = can ServerTurn w ≡ true
IsWork answer w (Machine outcome) = IsEnd answer w.server.server outcome
IsWork answer w _ = ⊥

-- such is what the server does next
pub work_is : (answer : Job → ℕ → Outcome) (w : World) (e : Event) → working (ending answer w) w ≡ Some e → IsWork answer w e
work_is answer w e is = go (running_job w.server.server) refl is
  where
    turn : (t : Bool) → can ServerTurn w ≡ t → ◌≡◌ {A = Option Event} (cond t (Some ServerTurn) None) (Some e) → IsWork answer w e
    turn true may f = subst (IsWork answer w) (some_event ServerTurn f) may
      where
        some_event : (d : Event) → ◌≡◌ {A = Option Event} (Some d) (Some e) → d ≡ e
        some_event d f = ap (λ (o : Option Event). or_event o d) f
          where
            or_event : Option Event → Event → Event
            or_event None x = x
            or_event (Some y) x = y
    turn false may f = absurd (cc)

    go : (o : Option Job) → running_job w.server.server ≡ o
        → working (ended answer (contact_count w.server.server.ledger) o) w ≡ Some e → IsWork answer w e
    go (Some job) asked f =
        let d : Event = Machine (answer job (contact_count w.server.server.ledger)) in
        subst (IsWork answer w) (some_event d f) (record { job = job; asked = asked; answered = refl })
      where
        some_event : (d : Event) → ◌≡◌ {A = Option Event} (Some d) (Some e) → d ≡ e
        some_event d f = ap (λ (o : Option Event). or_event o d) f
          where
            or_event : Option Event → Event → Event
            or_event None x = x
            or_event (Some y) x = y
    go None asked f = turn (can ServerTurn w) refl f

-- it is an event of a round
pub work_of : (answer : Job → ℕ → Outcome) (w : World) (e : Event) → IsWork answer w e → IsOfRound answer w e
work_of answer w ServerTurn h = tt
work_of answer w (Machine outcome) h = h
work_of answer w ClientSends h = absurd h
work_of answer w (Up k) h = absurd h
work_of answer w ServerReads h = absurd h
work_of answer w (Down k) h = absurd h
work_of answer w ClientReads h = absurd h
work_of answer w Connect h = absurd h
work_of answer w (Accept n) h = absurd h
work_of answer w ClientLeaves h = absurd h
work_of answer w ServerLeaves h = absurd h
work_of answer w Abort h = absurd h
work_of answer w Resume h = absurd h
work_of answer w (ClientRestart k) h = absurd h
work_of answer w ServerRestart h = absurd h
