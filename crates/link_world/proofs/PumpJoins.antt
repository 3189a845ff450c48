-- Calls of both pumps on one connection are a list of events of one world.
use Rattle.link_world.proofs.Names.{[], ◌&&◌, ◌++◌, ◌∙◌, ◌∷◌, ◌≡◌, ◌≢◌, ◌≤◌, always_sound, always_told, and_parts, ap, append-nil, append_assoc}
use Rattle.link_world.proofs.Names.{AreCalls, AreFit, AreOnWay, arith, Bool, Cause, Client, client_hears, client_joined, client_link, client_moves}
use Rattle.link_world.proofs.Names.{client_read, client_turn, ClientEnd, ClientTurn, command_of, cond, Consumes, contact_count, count_open, Datum}
use Rattle.link_world.proofs.Names.{drop, drop-append-le, due, end_aborted, end_left, EndPair, Err, Event, false, false≢true, first_due, FramingFault}
use Rattle.link_world.proofs.Names.{Front, front_read, front_served, given_for, given_homed, given_point, given_under, heard_on, held_under, homed_of}
use Rattle.link_world.proofs.Names.{is_asking, is_running, is_some, IsCall, IsCarried, IsClientTurn, IsOneWorld, IsProgram, IsServerTurn, IsWorldOf}
use Rattle.link_world.proofs.Names.{Job, Kind, left_state, length, line_read, Link, link_of, link_same, List, machined_moves, may_abort, may_read}
use Rattle.link_world.proofs.Names.{may_turn, Meaning, never_faulted_run, next_of, no_call, no_calls, no_event, no_framing_fault, None, not}
use Rattle.link_world.proofs.Names.{NotHomedText, NotPoint, NotResponse, Ok, one_more, Option, Outcome, Planned, Point, point_of, PumpCalls}
use Rattle.link_world.proofs.Names.{pumped_of, read_moves, Reading, reading_of, refl, Response, response_of, response_read, Result, run_carried}
use Rattle.link_world.proofs.Names.{run_of, running_job, Sending, sends_abort, sends_next, server_joined, server_left, server_link, server_moves}
use Rattle.link_world.proofs.Names.{server_turn, ServerEnd, ServerTurn, serving_left, Some, Sound, Stage, start, start_carried, State, steered}
use Rattle.link_world.proofs.Names.{steering, subst, suc, sym, Table, Tag, tag_is, take, take-append-le, take-append_seam, Taking, Told, true}
use Rattle.link_world.proofs.Names.{turned_moves, TurnLeads, with_client, with_link, with_server, Working, World, Writing, zero, ℕ}
use Rattle.dme_line.specs.declared.responses.Mark.{Mark as Marked}
use Rattle.protocol_model.specs.Replies.{Mark}
use Rattle.protocol_model.proofs.undisturbed_run.UndisturbedClient.{read_last}
use Rattle.link_world.specs.Pumps as client_stage
use Rattle.link_world.specs.ServerPumps as server_stage
use Rattle.link_world.specs.Joined.{client_stops, client_leaves, server_stops, client_left}
use Rattle.link_world.proofs.EventLists.{run_append}
use Rattle.link_world.proofs.ClientJoins.{fits, sent_last, turn_joins, turn_whole, turn_written, turn_leaves}
use Rattle.link_world.proofs.ServerJoins.{IsServing, reached_serving, serving_joins, serving_whole, serving_leaves}

-- ---- a side stays on its connection

hears_on : (c : Client) (t : Tag) (m : Mark) (r : Result Table Cause) → (client_hears c t m r).on ≡ c.on
hears_on c t m (Ok b) = refl
hears_on c t m (Err cause) = refl

either_on : (c : Client) (b : Bool) (d : Client) → d.on ≡ c.on → (cond b c d).on ≡ c.on
either_on c true d same = refl
either_on c false d same = same

client_on : (c : Client) (t : Tag) (m : Mark) → (client_read c t m).on ≡ c.on
client_on c t m = either_on c (tag_is t (Tag.Event 0)) (client_hears c t m (heard_on c.program.features c.table t m))
    (hears_on c t m (heard_on c.program.features c.table t m))

point_on : (c : Client) (t : Tag) (r : Result Point NotPoint) → (given_point c t r).on ≡ c.on
point_on c t (Ok p) = client_on c t (Mark.Given (Datum.Point p))
point_on c t (Err why) = refl

homed_on : (c : Client) (t : Tag) (r : Result Bool NotHomedText) → (given_homed c t r).on ≡ c.on
homed_on c t (Ok homed) = client_on c t (Mark.Given (Datum.Homed homed))
homed_on c t (Err why) = refl

for_on : (c : Client) (t : Tag) (text : List ℕ) (k : Kind) → (given_for c t text k).on ≡ c.on
for_on c t text Kind.PtMeas = point_on c t (point_of text)
for_on c t text Kind.IsHomed = homed_on c t (homed_of text)
for_on c t text Kind.StartSession = refl
for_on c t text Kind.EndSession = refl
for_on c t text Kind.ClearAllErrors = refl
for_on c t text Kind.Home = refl
for_on c t text Kind.OnPtMeasReport = refl
for_on c t text Kind.GoTo = refl
for_on c t text Kind.ChangeTool = refl
for_on c t text Kind.SetCsyTransformation = refl
for_on c t text Kind.SetCoordSystem = refl
for_on c t text Kind.AbortE = refl

under_on : (c : Client) (t : Tag) (text : List ℕ) (k : Option Kind) → (given_under c t text k).on ≡ c.on
under_on c t text None = refl
under_on c t text (Some k) = for_on c t text k

response_on : (c : Client) (t : Tag) (m : Marked) → (response_read c t m).on ≡ c.on
response_on c t Marked.Ack = client_on c t Mark.Ack
response_on c t (Marked.Given text) = either_on c (tag_is t (Tag.Event 0)) (given_under c t text (held_under t c))
    (under_on c t text (held_under t c))
response_on c t Marked.Done = client_on c t Mark.Done
response_on c t (Marked.Error text) = client_on c t Mark.Error

line_on : (c : Client) (r : Result Response NotResponse) → (line_read c r).on ≡ c.on
line_on c (Ok r) = response_on c r.tag r.mark
line_on c (Err refused) = refl

read_on : (c : Client) (f : Front) → (front_read c f).on ≡ c.on
read_on c (Ok None) = refl
read_on c (Ok (Some (line, rest))) = line_on c (response_of line)
read_on c (Err FramingFault.LineTooLong) = refl
read_on c (Err FramingFault.BadByte) = refl

next_on : (c : Client) (ps : List Planned) (n : Option ℕ) → (sends_next c ps n).client.on ≡ c.on
next_on c [] n = refl
next_on c (p ∷ ps) None = refl
next_on c (p ∷ ps) (Some n) = refl

record Stays (was is : Bool) (first now : ℕ) : Type 0 where
  pub on : is ≡ was
  pub last : now ≡ first

client_stays : (least : ℕ) (s : ClientEnd) (stage : Stage) (read written : List ℕ) (e : ClientEnd)
    → ClientTurn least s stage read written e → Stays s.client.on e.client.on s.client.last e.client.last
client_stays least s _ _ _ _ client_stage.begins = record { on = refl; last = refl }
client_stays least s _ _ _ _ (client_stage.sends e t is) =
    let k = client_stays least s Sending [] [] e t in record {
      on = next_on e.client e.client.table.tally.unsent _ ∙ k.on;
      last = sent_last e ∙ k.last;
    }
client_stays least s _ _ _ _ (client_stage.writes e count t none within) =
    let k = client_stays least s Sending [] [] e t in record { on = k.on; last = k.last }
client_stays least s _ _ _ _ (client_stage.takes e read written t out may) =
    let k = client_stays least s Writing [] written e t in record { on = k.on; last = k.last }
client_stays least s _ _ _ _ (client_stage.has e read written t enough) = client_stays least s Taking read written e t
client_stays least s _ _ _ _ (client_stage.reads e read written t may is) =
    let k = client_stays least s Reading read written e t in record {
      on = read_on e.client (next_of e.input.rest) ∙ k.on;
      last = read_last e.client (next_of e.input.rest) ∙ k.last;
    }

aborts_stay : (c : Client) (n : Option ℕ) → Stays c.on (sends_abort c n).client.on c.last (sends_abort c n).client.last
aborts_stay c None = record { on = refl; last = refl }
aborts_stay c (Some n) = record { on = refl; last = refl }

stop_stays : (e : ClientEnd) (b : Bool)
    → Stays e.client.on (cond b (end_aborted e) e).client.on e.client.last (cond b (end_aborted e) e).client.last
stop_stays e true = aborts_stay e.client _
stop_stays e false = record { on = refl; last = refl }

steered_stays : (c : Bool) (e : ClientEnd) → Stays e.client.on (steered c e).client.on e.client.last (steered c e).client.last
steered_stays false e = record { on = refl; last = refl }
steered_stays true e = stop_stays e (may_abort e.client.state)

turn_stays : (c : Bool) (least : ℕ) (s : ClientEnd) (stage : Stage) (read written : List ℕ) (e : ClientEnd)
    → ClientTurn least (steered c s) stage read written e → Stays s.client.on e.client.on s.client.last e.client.last
turn_stays c least s stage read written e t =
    let k = client_stays least (steered c s) stage read written e t in
    let m = steered_stays c s in record { on = k.on ∙ m.on; last = k.last ∙ m.last }

served_stays : (e : ServerEnd) (f : Front)
    → Stays e.server.on (front_served e f).server.on e.server.last (front_served e f).server.last
served_stays e (Ok None) = record { on = refl; last = refl }
served_stays e (Ok (Some (line, rest))) =
    let m = read_moves e.server (reading_of (command_of line)) in record { on = m.on; last = m.last }
served_stays e (Err why) = record { on = refl; last = refl }

server_stays : (answer : Job → ℕ → Outcome) (least : ℕ) (s : ServerEnd) (stage : Stage) (read written : List ℕ)
    (e : ServerEnd) → ServerTurn answer least s stage read written e → Stays s.server.on e.server.on s.server.last e.server.last
server_stays answer least s _ _ _ _ server_stage.begins = record { on = refl; last = refl }
server_stays answer least s _ _ _ _ (server_stage.takes read may) = record { on = refl; last = refl }
server_stays answer least s _ _ _ _ (server_stage.has e read t enough) = server_stays answer least s Taking read [] e t
server_stays answer least s _ _ _ _ (server_stage.reads e read t on is) =
    let k = server_stays answer least s Reading read [] e t in
    let m = served_stays e (next_of e.input.rest) in record { on = m.on ∙ k.on; last = m.last ∙ k.last }
server_stays answer least s _ _ _ _ (server_stage.knows e read t none) = server_stays answer least s Reading read [] e t
server_stays answer least s _ _ _ _ (server_stage.turns e read t may) =
    let k = server_stays answer least s Working read [] e t in
    let m = (turned_moves e.server).1 in record { on = m.on ∙ k.on; last = m.last ∙ k.last }
server_stays answer least s _ _ _ _ (server_stage.ends e read j t is) =
    let k = server_stays answer least s Working read [] e t in
    let m = (machined_moves e.server (answer j (contact_count e.server.ledger))).1 in record { on = m.on ∙ k.on; last = m.last ∙ k.last }
server_stays answer least s _ _ _ _ (server_stage.writes e read count t idle none within) =
    let k = server_stays answer least s Working read [] e t in record { on = k.on; last = k.last }

-- ---- a side that has left does nothing more

take_none : (n : ℕ) → take {A = ℕ} n [] ≡ []
take_none zero = refl
take_none (suc n) = refl

drop_none : (n : ℕ) → drop {A = ℕ} n [] ≡ []
drop_none zero = refl
drop_none (suc n) = refl

never_due : (s : State) (b : Bool) (o : Option Planned) → is_some (cond (is_running (left_state s) && b) o None) ≡ true → ⊥
never_due State.Apart b o is = false≢true is
never_due State.Running b o is = false≢true is
never_due State.Failing b o is = false≢true is
never_due State.Aborting b o is = false≢true is
never_due State.Halted b o is = false≢true is
never_due State.Done b o is = false≢true is
never_due State.Faulted b o is = false≢true is

left_once : (s : State) → left_state (left_state s) ≡ left_state s
left_once State.Apart = refl
left_once State.Running = refl
left_once State.Failing = refl
left_once State.Aborting = refl
left_once State.Halted = refl
left_once State.Done = refl
left_once State.Faulted = refl

left_twice : (e : ClientEnd) → end_left (end_left e) ≡ end_left e
left_twice e = λ i. record (end_left e) { client = record ((end_left e).client) { state = left_once e.client.state i } }

not_due : (e : ClientEnd) → is_some (due (end_left e).client) ≡ true → ⊥
not_due e is = never_due e.client.state (not (is_asking e.client.table.standard))
    (first_due e.client.window (count_open e.client.table.standard) e.client.table.tally.unsent) is

never_aborts : (s : State) → may_abort (left_state s) ≡ false
never_aborts State.Apart = refl
never_aborts State.Running = refl
never_aborts State.Failing = refl
never_aborts State.Aborting = refl
never_aborts State.Halted = refl
never_aborts State.Done = refl
never_aborts State.Faulted = refl

rests_by : (e : ClientEnd) (b : Bool) → b ≡ false → cond b (end_aborted e) e ≡ e
rests_by e true may = absurd (false≢true (sym may))
rests_by e false may = refl

-- what has left is not steered
left_steered : (c : Bool) (s x : ClientEnd) → s ≡ end_left x → steered c s ≡ end_left x
left_steered false s x left = left
left_steered true s x left =
    rests_by s (may_abort s.client.state) (ap (λ (e : ClientEnd). may_abort e.client.state) left ∙ never_aborts x.client.state) ∙ left

record Still {E : Type 0} (s e : E) (read written : List ℕ) : Type 0 where
  pub same : e ≡ s
  pub read_none : read ≡ []
  pub written_none : written ≡ []

abbrev ClientStill : Stage → ClientEnd → ClientEnd → List ℕ → List ℕ → Type 0
ClientStill Sending s e read written = Still s e read written
ClientStill Writing s e read written = Still s e read written
ClientStill _ s e read written = ⊥

client_still : (least : ℕ) (s x : ClientEnd) (stage : Stage) (read written : List ℕ) (e : ClientEnd) → s ≡ end_left x
    → ClientTurn least s stage read written e → ClientStill stage s e read written
client_still least s x _ _ _ _ left client_stage.begins = record { same = refl; read_none = refl; written_none = refl }
client_still least s x _ _ _ _ left (client_stage.sends e t is) =
    let k : Still s e [] [] = client_still least s x Sending [] [] e left t in
    absurd (not_due x (subst (λ (y : ClientEnd). is_some (due y.client) ≡ true) (k.same ∙ left) is))
client_still least s x _ _ _ _ left (client_stage.writes e count t none within) =
    let k : Still s e [] [] = client_still least s x Sending [] [] e left t in
    let out : e.out ≡ [] = ap (λ (y : ClientEnd). y.out) (k.same ∙ left) in record {
      same = (λ i. record e { out = (ap (drop count) out ∙ (drop_none count ∙ sym out)) i }) ∙ k.same;
      read_none = refl;
      written_none = ap (take count) out ∙ take_none count;
    }
client_still least s x _ _ _ _ left (client_stage.takes e read written t out may) =
    let k : Still s e [] written = client_still least s x Writing [] written e left t in
    false≢true (subst (λ (y : ClientEnd). may_read y.client ≡ true) (k.same ∙ left) may)
client_still least s x _ _ _ _ left (client_stage.has e read written t enough) =
    client_still least s x Taking read written e left t
client_still least s x _ _ _ _ left (client_stage.reads e read written t may is) =
    client_still least s x Reading read written e left t

server_still : (answer : Job → ℕ → Outcome) (least : ℕ) (s x : ServerEnd) (stage : Stage) (read written : List ℕ)
    (e : ServerEnd) → s ≡ serving_left x → ServerTurn answer least s stage read written e → Still s e read written
server_still answer least s x _ _ _ _ left server_stage.begins = record { same = refl; read_none = refl; written_none = refl }
server_still answer least s x _ _ _ _ left (server_stage.takes read may) =
    absurd (false≢true (sym (ap (λ (y : ServerEnd). y.server.on) left) ∙ (and_parts _ _ may).0))
server_still answer least s x _ _ _ _ left (server_stage.has e read t enough) =
    server_still answer least s x Taking read [] e left t
server_still answer least s x _ _ _ _ left (server_stage.reads e read t on is) =
    let k = server_still answer least s x Reading read [] e left t in
    absurd (false≢true (sym (ap (λ (y : ServerEnd). y.server.on) (k.same ∙ left)) ∙ on))
server_still answer least s x _ _ _ _ left (server_stage.knows e read t none) =
    server_still answer least s x Reading read [] e left t
server_still answer least s x _ _ _ _ left (server_stage.turns e read t may) =
    let k = server_still answer least s x Working read [] e left t in
    absurd (false≢true (subst (λ (y : ServerEnd). may_turn y.server ≡ true) (k.same ∙ left) may))
server_still answer least s x _ _ _ _ left (server_stage.ends e read j t is) =
    let k = server_still answer least s x Working read [] e left t in
    let never : None ≡ Some j = subst (λ (y : ServerEnd). running_job y.server ≡ Some j) (k.same ∙ left) is
    in absurd (cc)
server_still answer least s x _ _ _ _ left (server_stage.writes e read count t idle none within) =
    let k = server_still answer least s x Working read [] e left t in
    let out : e.out ≡ [] = ap (λ (y : ServerEnd). y.out) (k.same ∙ left) in record {
      same = (λ i. record e { out = (ap (drop count) out ∙ (drop_none count ∙ sym out)) i }) ∙ k.same;
      read_none = k.read_none;
      written_none = ap (take count) out ∙ take_none count;
    }

-- ---- bytes on their way

all_wait : (on : Bool) (xs ys : List ℕ) → AreOnWay on xs ys → on ≡ true → ys ≡ xs
all_wait true xs ys h is = h
all_wait false xs ys h is = absurd (false≢true is)

way_take : (on : Bool) (k : ℕ) (xs ys : List ℕ) → k ≤ length xs → AreOnWay on xs ys → take k ys ≡ take k xs
way_take true k xs ys le h = ap (take k) h
way_take false k xs ys le h = ap (take k) h.1 ∙ take-append-le k xs h.0 le

way_drop : (on : Bool) (k : ℕ) (xs ys : List ℕ) → k ≤ length xs → AreOnWay on xs ys → AreOnWay on (drop k xs) (drop k ys)
way_drop true k xs ys le h = ap (drop k) h
way_drop false k xs ys le h = (h.0, ap (drop k) h.1 ∙ drop-append-le k xs h.0 le)

way_front : (on : Bool) (read xs ys : List ℕ) → take (length read) xs ≡ read → AreOnWay on xs ys → take (length read) ys ≡ read
way_front on read xs ys front h = way_take on (length read) xs ys (fits read xs front) h ∙ front

-- what is known of the source of a call
pub source_front : (left more read : List ℕ) (left_now : Option (List ℕ)) → Consumes (Some left) left_now read
    → take (length read) (left ++ more) ≡ read
source_front left more read None h = absurd h
source_front left more read (Some now) h =
    ap (λ (x : List ℕ). take (length read) (x ++ more)) h
    ∙ (ap (take (length read)) (append_assoc read now more) ∙ take-append_seam read (now ++ more))

-- ---- one call

-- in addition: both are on one connection, or have left it
record Stands (w : World) (p : EndPair) : Type 0 where
  pub is : IsWorldOf w p
  pub from : 1 ≤ w.client.client.last
  pub same : w.server.server.last ≡ w.client.client.last
  pub client_gone : p.client.client.on ≡ false → (e : ClientEnd) × (p.client ≡ end_left e)
  pub server_gone : p.server.server.on ≡ false → (e : ServerEnd) × (p.server ≡ serving_left e)

-- one call
record Step (answer : Job → ℕ → Outcome) (v : World) (p : EndPair) : Type 0 where
  pub events : List Event
  pub is : IsCall answer v events
  pub now : World
  pub leads : run_of events v ≡ now
  pub stands : Stands now p

-- all calls
record Steps (answer : Job → ℕ → Outcome) (v : World) (p : EndPair) : Type 0 where
  pub events : List Event
  pub are : AreCalls answer v events
  pub now : World
  pub leads : run_of events v ≡ now
  pub stands : Stands now p

there : (v : World) (n m : ℕ) (l : Link) → IsCarried v → 1 ≤ v.client.client.last → n ≡ v.client.client.last → m ≡ v.client.client.last
    → link_of (with_link v.links n l) m ≡ l
there v n m l c from is also =
    let made = c.wired.made in
    ap (λ (k : ℕ). link_of (with_link v.links n l) k) (also ∙ sym is)
    ∙ link_same v.links n l (omega (arith, from, is)) (omega (arith, made, is))

nothing_done : (answer : Job → ℕ → Outcome) (v : World) (p q : EndPair) → Stands v p → q ≡ p → Step answer v q
nothing_done answer v p q s same = record {
  events = [];
  is = no_event;
  now = v;
  leads = refl;
  stands = subst (Stands v) (sym same) s;
}

client_rests : (p : EndPair) (e : ClientEnd) (read written : List ℕ) → e ≡ p.client → read ≡ [] → written ≡ []
    → with_client p e read written ≡ p
client_rests p e read written same read_none written_none = λ i. record {
  client = same i;
  server = p.server;
  up = (ap (λ (x : List ℕ). p.up ++ x) written_none ∙ append-nil p.up) i;
  down = drop (length (read_none i)) p.down;
}

server_rests : (p : EndPair) (e : ServerEnd) (read written : List ℕ) → e ≡ p.server → read ≡ [] → written ≡ []
    → with_server p e read written ≡ p
server_rests p e read written same read_none written_none = λ i. record {
  client = p.client;
  server = same i;
  up = drop (length (read_none i)) p.up;
  down = (ap (λ (x : List ℕ). p.down ++ x) written_none ∙ append-nil p.down) i;
}

-- the client's turn, from its connection
record ClientSteps (c : Bool) (v : World) (p : EndPair) (stage : Stage) (read written : List ℕ) (e : ClientEnd) : Type 0 where
  pub joined : TurnLeads (IsClientTurn (length read)) true (run_of (steering c) v) (client_joined v e (written ++ e.out) (length read))
  pub stays : Stays p.client.client.on e.client.on p.client.client.last e.client.last
  pub out : stage ≡ Reading → e.out ≡ []
  pub whole : stage ≡ Reading → next_of e.input.rest ≡ Ok None
      → TurnLeads (IsClientTurn (length read)) false (run_of (steering c) v) (client_joined v e written (length read))

client_goes : (k : Bool) (v : World) (p : EndPair) → IsCarried v → Stands v p → (least : ℕ) (stage : Stage)
    (read written : List ℕ) (e : ClientEnd) → take (length read) p.down ≡ read
    → ClientTurn least (steered k p.client) stage read written e → ClientSteps k v p stage read written e
client_goes k v p c s least stage read written e front t =
    let turn : ClientTurn least (steered k v.client) stage read written e =
    subst (λ (x : ClientEnd). ClientTurn least (steered k x) stage read written e) (sym s.is.client) t in
    let came : take (length read) (client_link v).down ≡ read =
    way_front p.server.server.on read p.down (client_link v).down front s.is.down in
    let made = c.wired.made in
    let to : v.client.client.last ≤ length v.links = omega (arith, made) in record {
      joined = turn_joins k least v stage read written e c.client_out s.from to came turn;
      stays = turn_stays k least p.client stage read written e t;
      out = λ is. turn_written k least v read written e c.client_out s.from to came
          (subst (λ (x : Stage). ClientTurn least (steered k v.client) x read written e) is turn);
      whole = λ is all. turn_whole k least v read written e c.client_out s.from to came
          (subst (λ (x : Stage). ClientTurn least (steered k v.client) x read written e) is turn) all;
    }

-- the way up after a turn of the client
up_more : (v : World) (p : EndPair) (written out : List ℕ) → Stands v p → p.client.client.on ≡ true
    → (client_link v).up ++ (written ++ out) ≡ (p.up ++ written) ++ out
up_more v p written out s on =
    ap (λ (x : List ℕ). x ++ (written ++ out)) (all_wait p.client.client.on p.up (client_link v).up s.is.up on)
    ∙ sym (append_assoc p.up written out)

client_link_now : (v : World) (p : EndPair) (e : ClientEnd) (text : List ℕ) (k : ℕ) → IsCarried v → Stands v p
    → e.client.last ≡ p.client.client.last
    → client_link (client_joined v e text k) ≡ record { up = (client_link v).up ++ text; down = drop k (client_link v).down }
client_link_now v p e text k c s last =
    there v v.client.client.last e.client.last
    (record { up = (client_link v).up ++ text; down = drop k (client_link v).down }) c s.from refl
    (last ∙ sym (ap (λ (x : ClientEnd). x.client.last) s.is.client))

client_last_now : (v : World) (p : EndPair) (e : ClientEnd) → Stands v p → e.client.last ≡ p.client.client.last
    → e.client.last ≡ v.client.client.last
client_last_now v p e s last = last ∙ sym (ap (λ (x : ClientEnd). x.client.last) s.is.client)

client_moved_on : (answer : Job → ℕ → Outcome) → (k : Bool) (v : World) (p : EndPair) → IsCarried v
    → Stands v p → (least : ℕ)
    (read written : List ℕ) (e : ClientEnd) → p.client.client.on ≡ true → next_of e.input.rest ≡ Ok None → take (length read) p.down ≡ read
    → ClientTurn least (steered k p.client) Reading read written e → Step answer v (with_client p e read written)
client_moved_on answer k v p c s least read written e on all front t =
    let g : ClientSteps k v p Reading read written e = client_goes k v p c s least Reading read written e front t in
    let still_on : e.client.on ≡ true = g.stays.on ∙ on in
    let out : e.out ≡ [] = g.out refl in
    let last : e.client.last ≡ v.client.client.last = client_last_now v p e s g.stays.last in
    let link = client_link_now v p e written (length read) c s g.stays.last in
    let turn = g.whole refl all in
    let now : World = client_joined v e written (length read) in record {
      events = steering k ++ turn.events;
      is = client_turn k (length read) turn.events turn.made;
      now = now;
      leads = run_append (steering k) turn.events v ∙ turn.leads;
      stands = record {
        is = record {
          client = λ i. record e { out = sym out i };
          server = s.is.server;
          up = subst (λ (b : Bool). AreOnWay b (p.up ++ written) (client_link now).up) (sym still_on)
              (ap (λ (l : Link). l.up) link
              ∙ ap (λ (x : List ℕ). x ++ written) (all_wait p.client.client.on p.up (client_link v).up s.is.up on));
          down = subst (λ (l : Link). AreOnWay p.server.server.on (drop (length read) p.down) l.down) (sym link)
              (way_drop p.server.server.on (length read) p.down (client_link v).down (fits read p.down front) s.is.down);
        };
        from = subst (λ (n : ℕ). 1 ≤ n) (sym last) s.from;
        same = s.same ∙ sym last;
        client_gone = λ off. absurd (false≢true (sym off ∙ still_on));
        server_gone = s.server_gone;
      };
    }

client_stopped_on : (answer : Job → ℕ → Outcome) → (k : Bool) (v : World) (p : EndPair) → IsCarried v
    → Stands v p → (least : ℕ)
    (stage : Stage) (read written : List ℕ) (e : ClientEnd) → p.client.client.on ≡ true → take (length read) p.down ≡ read
    → ClientTurn least (steered k p.client) stage read written e → Step answer v (with_client p (end_left e) read written)
client_stopped_on answer k v p c s least stage read written e on front t =
    let g : ClientSteps k v p stage read written e = client_goes k v p c s least stage read written e front t in
    let last : e.client.last ≡ v.client.client.last = client_last_now v p e s g.stays.last in
    let link = client_link_now v p e (written ++ e.out) (length read) c s g.stays.last in
    let now : World = record (client_joined v e (written ++ e.out) (length read)) { client = end_left e } in record {
      events = (steering k ++ g.joined.events) ++ Event.ClientLeaves ∷ [];
      is = client_left k (length read) g.joined.events g.joined.made;
      now = now;
      leads = turn_leaves v (steering k ++ g.joined.events) e (written ++ e.out) (length read)
          (run_append (steering k) g.joined.events v ∙ g.joined.leads) (g.stays.on ∙ on);
      stands = record {
        is = record {
          client = refl;
          server = s.is.server;
          up = (e.out, ap (λ (l : Link). l.up) link ∙ up_more v p written e.out s on);
          down = subst (λ (l : Link). AreOnWay p.server.server.on (drop (length read) p.down) l.down) (sym link)
              (way_drop p.server.server.on (length read) p.down (client_link v).down (fits read p.down front) s.is.down);
        };
        from = subst (λ (n : ℕ). 1 ≤ n) (sym last) s.from;
        same = s.same ∙ sym last;
        client_gone = λ off. (e, refl);
        server_gone = s.server_gone;
      };
    }

client_moved : (answer : Job → ℕ → Outcome) → (k : Bool) (v : World) (p : EndPair) → IsCarried v → Stands v p
    → (least : ℕ) (read written : List ℕ) (e : ClientEnd) (b : Bool) → p.client.client.on ≡ b → next_of e.input.rest ≡ Ok None
    → take (length read) p.down ≡ read → ClientTurn least (steered k p.client) Reading read written e
    → Step answer v (with_client p e read written)
client_moved answer k v p c s least read written e true on all front t =
    client_moved_on answer k v p c s least read written e on all front t
client_moved answer k v p c s least read written e false off all front t =
    let gone = s.client_gone off in absurd (client_still least (steered k p.client) gone.0 Reading read written e (left_steered k p.client gone.0 gone.1) t)

client_rest : (answer : Job → ℕ → Outcome) (v : World) (p : EndPair) (stage : Stage) (read written : List ℕ)
    (e x : ClientEnd) → Stands v p
    → p.client ≡ end_left x → ClientStill stage p.client e read written → Step answer v (with_client p (end_left e) read written)
client_rest answer v p stage read written e x s left k = go stage k
  where
    at_rest : Still p.client e read written → Step answer v (with_client p (end_left e) read written)
    at_rest k = nothing_done answer v p (with_client p (end_left e) read written) s
        (client_rests p (end_left e) read written (ap end_left (k.same ∙ left) ∙ (left_twice x ∙ sym left)) k.read_none k.written_none)

    go : (stage : Stage) → ClientStill stage p.client e read written → Step answer v (with_client p (end_left e) read written)
    go Sending k = at_rest k
    go Writing k = at_rest k
    go Taking k = absurd k
    go Reading k = absurd k
    go Working k = absurd k

client_stopped : (answer : Job → ℕ → Outcome) → (k : Bool) (v : World) (p : EndPair) → IsCarried v
    → Stands v p → (least : ℕ)
    (stage : Stage) (read written : List ℕ) (e : ClientEnd) (b : Bool) → p.client.client.on ≡ b → take (length read) p.down ≡ read
    → ClientTurn least (steered k p.client) stage read written e → Step answer v (with_client p (end_left e) read written)
client_stopped answer k v p c s least stage read written e true on front t =
    client_stopped_on answer k v p c s least stage read written e on front t
client_stopped answer k v p c s least stage read written e false off front t =
    let gone = s.client_gone off in
    client_rest answer v p stage read written e gone.0 s gone.1
    (subst (λ (x : ClientEnd). ClientStill stage x e read written) (left_steered k p.client gone.0 gone.1 ∙ sym gone.1)
    (client_still least (steered k p.client) gone.0 stage read written e (left_steered k p.client gone.0 gone.1) t))

-- the server's turn
record ServerSteps (answer : Job → ℕ → Outcome) (v : World) (p : EndPair) (stage : Stage) (read written : List ℕ)
    (e : ServerEnd) : Type 0
  where
    pub joined : TurnLeads (IsServerTurn answer (length read)) true v (server_joined v e (written ++ e.out) (length read))
    pub stays : Stays p.server.server.on e.server.on p.server.server.last e.server.last
    pub whole : stage ≡ Writing
        → TurnLeads (IsServerTurn answer (length read)) false v (server_joined v e (written ++ e.out) (length read))

server_goes : (answer : Job → ℕ → Outcome) → AreFit answer → (v : World) (p : EndPair) → IsCarried v → Stands v p
    → (least : ℕ) (stage : Stage) (read written : List ℕ) (e : ServerEnd) → p.server.server.on ≡ true → take (length read) p.up ≡ read
    → ServerTurn answer least p.server stage read written e → ServerSteps answer v p stage read written e
server_goes answer fit v p c s least stage read written e on front t =
    let turn : ServerTurn answer least v.server stage read written e =
    subst (λ (x : ServerEnd). ServerTurn answer least x stage read written e) (sym s.is.server) t in
    let waits : take (length read) (client_link v).up ≡ read = way_front p.client.client.on read p.up (client_link v).up front s.is.up in
    let came : take (length read) (server_link v).up ≡ read =
    ap (λ (n : ℕ). take (length read) (link_of v.links n).up) s.same ∙ waits in
    let h : IsServing v = reached_serving v c (ap (λ (x : ServerEnd). x.server.on) s.is.server ∙ on) in record {
      joined = serving_joins answer fit least v stage read written e h.out h.fine h.from h.to came turn;
      stays = server_stays answer least p.server stage read written e t;
      whole = λ is. serving_whole answer fit least v read written e h.out h.fine h.from h.to came
          (subst (λ (x : Stage). ServerTurn answer least v.server x read written e) is turn);
    }

server_link_now : (v : World) (p : EndPair) (e : ServerEnd) (text : List ℕ) (k : ℕ) → IsCarried v → Stands v p
    → client_link (server_joined v e text k) ≡ record { up = drop k (client_link v).up; down = (client_link v).down ++ text }
server_link_now v p e text k c s =
    there v v.server.server.last v.client.client.last
    (record { up = drop k (server_link v).up; down = (server_link v).down ++ text }) c s.from s.same refl
    ∙ ap (λ (n : ℕ). record { up = drop k (link_of v.links n).up; down = (link_of v.links n).down ++ text }) s.same

down_more : (v : World) (p : EndPair) (written out : List ℕ) → Stands v p → p.server.server.on ≡ true
    → (client_link v).down ++ (written ++ out) ≡ (p.down ++ written) ++ out
down_more v p written out s on =
    ap (λ (x : List ℕ). x ++ (written ++ out)) (all_wait p.server.server.on p.down (client_link v).down s.is.down on)
    ∙ sym (append_assoc p.down written out)

server_last_now : (v : World) (p : EndPair) (e : ServerEnd) → Stands v p → e.server.last ≡ p.server.server.last
    → e.server.last ≡ v.client.client.last
server_last_now v p e s last = last ∙ (sym (ap (λ (x : ServerEnd). x.server.last) s.is.server) ∙ s.same)

server_moved_on : (answer : Job → ℕ → Outcome) → AreFit answer → (v : World) (p : EndPair) → IsCarried v → Stands v p
    → (least : ℕ) (read written : List ℕ) (e : ServerEnd) → p.server.server.on ≡ true → e.out ≡ []
    → take (length read) p.up ≡ read → ServerTurn answer least p.server Writing read written e
    → Step answer v (with_server p e read written)
server_moved_on answer fit v p c s least read written e on out front t =
    let g : ServerSteps answer v p Writing read written e =
    server_goes answer fit v p c s least Writing read written e on front t in
    let still_on : e.server.on ≡ true = g.stays.on ∙ on in
    let link = server_link_now v p e (written ++ e.out) (length read) c s in
    let turn = g.whole refl in
    let now : World = server_joined v e (written ++ e.out) (length read) in record {
      events = turn.events;
      is = server_turn (length read) turn.events turn.made;
      now = now;
      leads = turn.leads;
      stands = record {
        is = record {
          client = s.is.client;
          server = λ i. record e { out = sym out i };
          up = subst (λ (l : Link). AreOnWay p.client.client.on (drop (length read) p.up) l.up) (sym link)
              (way_drop p.client.client.on (length read) p.up (client_link v).up (fits read p.up front) s.is.up);
          down = subst (λ (b : Bool). AreOnWay b (p.down ++ written) (client_link now).down) (sym still_on)
              (ap (λ (l : Link). l.down) link ∙ (down_more v p written e.out s on
              ∙ (ap (λ (x : List ℕ). (p.down ++ written) ++ x) out ∙ append-nil (p.down ++ written))));
        };
        from = s.from;
        same = server_last_now v p e s g.stays.last;
        client_gone = s.client_gone;
        server_gone = λ off. absurd (false≢true (sym off ∙ still_on));
      };
    }

server_stopped_on : (answer : Job → ℕ → Outcome) → AreFit answer → (v : World) (p : EndPair) → IsCarried v → Stands v p
    → (least : ℕ) (stage : Stage) (read written : List ℕ) (e : ServerEnd) → p.server.server.on ≡ true
    → take (length read) p.up ≡ read → ServerTurn answer least p.server stage read written e
    → Step answer v (with_server p (serving_left e) read written)
server_stopped_on answer fit v p c s least stage read written e on front t =
    let g : ServerSteps answer v p stage read written e =
    server_goes answer fit v p c s least stage read written e on front t in
    let link = server_link_now v p e (written ++ e.out) (length read) c s in
    let now : World = record (server_joined v e (written ++ e.out) (length read)) { server = serving_left e } in record {
      events = g.joined.events ++ Event.ServerLeaves ∷ [];
      is = server_left (length read) g.joined.events g.joined.made;
      now = now;
      leads = serving_leaves v g.joined.events e (written ++ e.out) (length read) g.joined.leads (g.stays.on ∙ on);
      stands = record {
        is = record {
          client = s.is.client;
          server = refl;
          up = subst (λ (l : Link). AreOnWay p.client.client.on (drop (length read) p.up) l.up) (sym link)
              (way_drop p.client.client.on (length read) p.up (client_link v).up (fits read p.up front) s.is.up);
          down = (e.out, ap (λ (l : Link). l.down) link ∙ down_more v p written e.out s on);
        };
        from = s.from;
        same = server_last_now v p e s g.stays.last;
        client_gone = s.client_gone;
        server_gone = λ off. (e, refl);
      };
    }

server_moved : (answer : Job → ℕ → Outcome) → AreFit answer → (v : World) (p : EndPair) → IsCarried v → Stands v p
    → (least : ℕ) (read written : List ℕ) (e : ServerEnd) (b : Bool) → p.server.server.on ≡ b → e.out ≡ []
    → take (length read) p.up ≡ read → ServerTurn answer least p.server Writing read written e
    → Step answer v (with_server p e read written)
server_moved answer fit v p c s least read written e true on out front t =
    server_moved_on answer fit v p c s least read written e on out front t
server_moved answer fit v p c s least read written e false off out front t =
    let gone = s.server_gone off in
    let k = server_still answer least p.server gone.0 Writing read written e gone.1 t in
    nothing_done answer v p (with_server p e read written) s (server_rests p e read written k.same k.read_none k.written_none)

server_stopped : (answer : Job → ℕ → Outcome) → AreFit answer → (v : World) (p : EndPair) → IsCarried v → Stands v p
    → (least : ℕ) (stage : Stage) (read written : List ℕ) (e : ServerEnd) (b : Bool) → p.server.server.on ≡ b
    → take (length read) p.up ≡ read → ServerTurn answer least p.server stage read written e
    → Step answer v (with_server p (serving_left e) read written)
server_stopped answer fit v p c s least stage read written e true on front t =
    server_stopped_on answer fit v p c s least stage read written e on front t
server_stopped answer fit v p c s least stage read written e false off front t =
    let gone = s.server_gone off in
    let k = server_still answer least p.server gone.0 stage read written e gone.1 t in
    nothing_done answer v p (with_server p (serving_left e) read written) s
    (server_rests p (serving_left e) read written (ap serving_left (k.same ∙ gone.1) ∙ sym gone.1) k.read_none k.written_none)

-- ---- all calls

steps_more : (answer : Job → ℕ → Outcome) (w : World) (p q : EndPair) → (g : Steps answer w p)
    → Step answer g.now q → Steps answer w q
steps_more answer w p q g h = record {
  events = g.events ++ h.events;
  are = one_more g.events h.events g.are (subst (λ (v : World). IsCall answer v h.events) (sym g.leads) h.is);
  now = h.now;
  leads = run_append g.events h.events w ∙ (ap (run_of h.events) g.leads ∙ h.leads);
  stands = h.stands;
}

now_carried : (answer : Job → ℕ → Outcome) → (w : World) (p : EndPair) → IsCarried w
    → (g : Steps answer w p) → IsCarried g.now
now_carried answer w p c g = subst IsCarried g.leads (run_carried g.events w c)

calls : (answer : Job → ℕ → Outcome) → AreFit answer → (w : World) (p : EndPair) → IsCarried w
    → Stands w (pumped_of w) → PumpCalls answer (pumped_of w) p → Steps answer w p
calls answer fit w _ c s no_calls = record { events = []; are = no_call; now = w; leads = refl; stands = s }
calls answer fit w _ c s (client_moves p k e least left left_now taken taken_now moved t h front) =
    let g : Steps answer w p = calls answer fit w p c s t in
    steps_more answer w p (with_client p e h.read h.written) g
    (client_moved answer k g.now p (now_carried answer w p c g) g.stands least h.read h.written e
    p.client.client.on refl h.all front (h.turn))
calls answer fit w _ c s (client_leaves p k t) =
    let g : Steps answer w p = calls answer fit w p c s t in
    steps_more answer w p (with_client p (end_left (steered k p.client)) [] []) g
    (client_stopped answer k g.now p (now_carried answer w p c g) g.stands 0 Sending [] [] (steered k p.client)
    p.client.client.on refl refl client_stage.begins)
calls answer fit w _ c s (client_stops p k e least bound left left_now taken taken_now fault t h front) =
    let g : Steps answer w p = calls answer fit w p c s t in
    subst (λ (x : ClientEnd). Steps answer w (with_client p x h.read h.written)) (sym h.leaves)
    (steps_more answer w p (with_client p (end_left h.last) h.read h.written) g
    (client_stopped answer k g.now p (now_carried answer w p c g) g.stands least h.stage h.read h.written h.last
    p.client.client.on refl front (h.turn)))
calls answer fit w _ c s (server_moves p e least left left_now taken taken_now moved t h front) =
    let g : Steps answer w p = calls answer fit w p c s t in
    steps_more answer w p (with_server p e h.read h.written) g
    (server_moved answer fit g.now p (now_carried answer w p c g) g.stands least h.read h.written e p.server.server.on
    refl h.all front (h.turn))
calls answer fit w _ c s (server_stops p e least bound left left_now taken taken_now fault t h front) =
    let g : Steps answer w p = calls answer fit w p c s t in
    subst (λ (x : ServerEnd). Steps answer w (with_server p x h.read h.written)) (sym h.leaves)
    (steps_more answer w p (with_server p (serving_left h.last) h.read h.written) g
    (server_stopped answer fit g.now p (now_carried answer w p c g) g.stands least h.stage h.read h.written h.last
    p.server.server.on refl front (h.turn)))

way_whole : (on : Bool) (xs : List ℕ) → AreOnWay on xs xs
way_whole true xs = refl
way_whole false xs = ([], sym (append-nil xs))

begins_so : (w : World) → IsCarried w → w.client.client.on ≡ true → w.server.server.on ≡ true
    → w.server.server.last ≡ w.client.client.last → Stands w (pumped_of w)
begins_so w c client server same = record {
  is = record {
    client = refl;
    server = refl;
    up = way_whole w.client.client.on (client_link w).up;
    down = way_whole w.server.server.on (client_link w).down;
  };
  from = c.wired.first client;
  same = same;
  client_gone = λ off. absurd (false≢true (sym off ∙ client));
  server_gone = λ off. absurd (false≢true (sym off ∙ server));
}

pumps_reach : (answer : Job → ℕ → Outcome) → AreFit answer → (w : World) (p : EndPair)
    (program : Meaning) (rack : List (List ℕ)) (window : ℕ) (events : List Event) → IsProgram program → window ≤ 16
    → w ≡ run_of events (start program rack window) → w.client.client.on ≡ true → w.server.server.on ≡ true
    → w.server.server.last ≡ w.client.client.last → PumpCalls answer (pumped_of w) p → Steps answer w p
pumps_reach answer fit w p program rack window events is few reached client server same t =
    let c : IsCarried w =
    subst IsCarried (sym reached) (run_carried events (start program rack window) (start_carried program rack window is few)) in
    calls answer fit w p c (begins_so w c client server same) t

pub pumps_join : (answer : Job → ℕ → Outcome) → AreFit answer → (w : World) (p : EndPair)
    (program : Meaning) (rack : List (List ℕ)) (window : ℕ) (events : List Event) → IsProgram program → window ≤ 16
    → w ≡ run_of events (start program rack window) → w.client.client.on ≡ true → w.server.server.on ≡ true
    → w.server.server.last ≡ w.client.client.last → PumpCalls answer (pumped_of w) p → IsOneWorld answer w p
pumps_join answer fit w p program rack window events is few reached client server same t =
    let g = pumps_reach answer fit w p program rack window events is few reached client server same t in
    record { events = g.events; are = g.are; is = subst (λ (v : World). IsWorldOf v p) (sym g.leads) g.stands.is }

-- the whole list of events, from the start
from_start : (answer : Job → ℕ → Outcome) (w : World) (p : EndPair) (v : World) (events : List Event)
    → w ≡ run_of events v
    → (g : Steps answer w p) → run_of (events ++ g.events) v ≡ g.now
from_start answer w p v events reached g =
    run_append events g.events v ∙ (ap (run_of g.events) (sym reached) ∙ g.leads)

pub pumps_sound : (answer : Job → ℕ → Outcome) → AreFit answer → (w : World) (p : EndPair)
    (program : Meaning) (rack : List (List ℕ)) (window : ℕ) (events : List Event) → IsProgram program → window ≤ 16
    → w ≡ run_of events (start program rack window) → w.client.client.on ≡ true → w.server.server.on ≡ true
    → w.server.server.last ≡ w.client.client.last → PumpCalls answer (pumped_of w) p
    → Sound program.features p.client.client.table.tally.features p.server.server.ledger
pumps_sound answer fit w p program rack window events is few reached client server same t =
    let g = pumps_reach answer fit w p program rack window events is few reached client server same t in
    subst (λ (e : ClientEnd). Sound program.features e.client.table.tally.features p.server.server.ledger) g.stands.is.client
    (subst (λ (e : ServerEnd). Sound program.features g.now.client.client.table.tally.features e.server.ledger) g.stands.is.server
    (subst (λ (v : World). Sound program.features v.client.client.table.tally.features v.server.server.ledger)
    (from_start answer w p (start program rack window) events reached g)
    (always_sound program rack window (events ++ g.events) is few)))

pub pumps_told : (answer : Job → ℕ → Outcome) → AreFit answer → (w : World) (p : EndPair)
    (program : Meaning) (rack : List (List ℕ)) (window : ℕ) (events : List Event) → IsProgram program → window ≤ 16
    → w ≡ run_of events (start program rack window) → w.client.client.on ≡ true → w.server.server.on ≡ true
    → w.server.server.last ≡ w.client.client.last → PumpCalls answer (pumped_of w) p
    → Told p.client.client.table.tally.counted p.server.server.ledger p.client.client.last
pumps_told answer fit w p program rack window events is few reached client server same t =
    let g = pumps_reach answer fit w p program rack window events is few reached client server same t in
    subst (λ (e : ClientEnd). Told e.client.table.tally.counted p.server.server.ledger e.client.last) g.stands.is.client
    (subst (λ (e : ServerEnd). Told g.now.client.client.table.tally.counted e.server.ledger g.now.client.client.last) g.stands.is.server
    (subst (λ (v : World). Told v.client.client.table.tally.counted v.server.server.ledger v.client.client.last)
    (from_start answer w p (start program rack window) events reached g)
    (always_told program rack window (events ++ g.events) is few)))

pub pumps_agree : (answer : Job → ℕ → Outcome) → AreFit answer → (w : World) (p : EndPair)
    (program : Meaning) (rack : List (List ℕ)) (window : ℕ) (events : List Event) → IsProgram program → window ≤ 16
    → w ≡ run_of events (start program rack window) → w.client.client.on ≡ true → w.server.server.on ≡ true
    → w.server.server.last ≡ w.client.client.last → PumpCalls answer (pumped_of w) p
    → (p.client.client.state ≢ State.Faulted) × (p.server.input.fault ≡ None)
pumps_agree answer fit w p program rack window events is few reached client server same t =
    let g = pumps_reach answer fit w p program rack window events is few reached client server same t in
    let leads = from_start answer w p (start program rack window) events reached g in (
      subst (λ (e : ClientEnd). e.client.state ≢ State.Faulted) g.stands.is.client
          (subst (λ (v : World). v.client.client.state ≢ State.Faulted) leads
          (never_faulted_run program rack window (events ++ g.events) is few)),
      sym (ap (λ (e : ServerEnd). e.input.fault) g.stands.is.server)
          ∙ (sym (ap (λ (v : World). v.server.input.fault) leads)
          ∙ no_framing_fault program rack window (events ++ g.events) is few),
    )
