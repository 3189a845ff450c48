-- A quiet round leaves nothing to do but what is due.
use Rattle.link_world.proofs.Names.{[], ◌&&◌, ◌++◌, ◌-◌, ◌<◌, ◌∙◌, ◌∷◌, ◌≡◌, ◌≢◌, ◌≤◌, ◌⊎◌, Act, after, all_down, all_up, and_parts, ap, AreWhile}
use Rattle.link_world.proofs.Names.{AreWork, arith, Bool, can, Client, client_link, command_of, cond, contact_count, drop, due, ended, ending, Err}
use Rattle.link_world.proofs.Names.{Event, false, false≢true, Framing, FramingFault, Front, front_served, happens, has_some, inl, inr, is_empty}
use Rattle.link_world.proofs.Names.{is_line, is_none, is_some, IsOne, IsRound, Job, length, Link, link_of, List, machined_moves, MayEnd, Moves}
use Rattle.link_world.proofs.Names.{nat_le, next_of, no_link, None, not, Ok, Option, Outcome, read_moves, reading_of, refl, Result, run_of}
use Rattle.link_world.proofs.Names.{running_job, Server, server_link, server_machined, server_read, server_turned, server_writes, ServerEnd}
use Rattle.link_world.proofs.Names.{slice_index_or, slice_set, Some, State, subst, suc, sym, Then, true, turned_moves, with_answer, with_link}
use Rattle.link_world.proofs.Names.{working, World, zero, ℕ}
use Rattle.protocol_model.specs.Server.{Answer}
use Rattle.protocol_model.specs.Rounds.{possible}
use Rattle.protocol_model.specs.World.{is_faulted}
use Rattle.link_world.proofs.AllBytes.{possible_now, not_possible}
use Rattle.link_world.proofs.EventLists.{run_append, done_now}
use Rattle.link_world.proofs.Unsent.{unsent, front_few, is_calm, AreCalm, run_few, sent_less}

-- ---- parts of a round that were not cut

pub then_whole : (A B : Bool → World → List Event → Type 0) (w : World) (es : List Event)
    → (h : Then A B false w es) → A false w h.front × B false (run_of h.front w) h.back
then_whole A B w es h = go h.parts
  where
    go : (A false w h.front × B false (run_of h.front w) h.back) ⊎ ((false ≡ true) × A true w h.front × (h.back ≡ []))
        → A false w h.front × B false (run_of h.front w) h.back
    go (inl both) = both
    go (inr cut) = absurd (false≢true cut.0)

pub first_is : (e f : Event) (w : World) → f ≡ e → can e w ≡ true → after f w ≡ happens e w
first_is e f w is may = ap (λ (x : Event). after x w) is ∙ done_now e w may

-- an event is not possible after its repetition
while_over : (e : Event) (w : World) (es : List Event) → AreWhile e false w es
    → can e (run_of es w) ≡ false
while_over e w [] h = h
while_over e w (f ∷ fs) h =
    subst (λ (v : World). can e (run_of fs v) ≡ false) (sym (first_is e f w h.0 h.1))
    (while_over e (happens e w) fs h.2)

-- what an event keeps when it happens, its repetition keeps
while_keeps : (e : Event) (P : World → Type 0)
    → ((v : World) → can e v ≡ true → P v → P (happens e v)) → (w : World) (es : List Event) → AreWhile e false w es
    → P w → P (run_of es w)
while_keeps e P keeps w [] h p = p
while_keeps e P keeps w (f ∷ fs) h p =
    subst (λ (v : World). P (run_of fs v)) (sym (first_is e f w h.0 h.1))
    (while_keeps e P keeps (happens e w) fs h.2 (keeps w h.1 p))

-- what an event keeps when it happens, it keeps whether it can happen or not
after_keeps : (e : Event) (P : World → Type 0) → ((v : World) → P v → P (happens e v)) → (w : World) → P w
    → P (after e w)
after_keeps e P keeps w p = go (can e w)
  where
    go : (b : Bool) → P (cond b (happens e w) w)
    go true = keeps w p
    go false = p

-- what is possible is that event
pub possible_is : (e f : Event) (b : Bool) → cond {A = Option Event} b (Some e) None ≡ Some f → f ≡ e
possible_is e f true is = cc
possible_is e f false is = absurd (cc)

-- what one event keeps, one that is possible or none keeps
one_keeps : (e : Event) (P : World → Type 0) → ((v : World) → P v → P (happens e v)) → (w : World)
    (es : List Event) → IsOne (possible e w) false es → P w → P (run_of es w)
one_keeps e P keeps w es one p = go (possible e w) refl one
  where
    go : (o : Option Event) → possible e w ≡ o → IsOne o false es → P (run_of es w)
    go None is none = subst (λ (x : List Event). P (run_of x w)) (sym none) p
    go (Some f) is (inl same) =
        subst (λ (x : List Event). P (run_of x w)) (sym same)
        (subst (λ (x : Event). P (after x w)) (sym (possible_is e f (can e w) is)) (after_keeps e P keeps w p))
    go (Some f) is (inr cut) = absurd (false≢true cut.0)

-- what turns and ends keep, work keeps
work_keeps : (answer : Job → ℕ → Outcome) (P : World → Type 0)
    → ((v : World) → P v → P (happens Event.ServerTurn v))
    → ((o : Outcome) (v : World) → P v → P (happens (Event.Machine o) v)) → (w : World) (es : List Event)
    → AreWork answer false w es → P w → P (run_of es w)
work_keeps answer P turns ends w [] h p = p
work_keeps answer P turns ends w (e ∷ es) h p =
    work_keeps answer P turns ends (after e w) es h.1 (go (running_job w.server.server) h.0)
  where
    go : (job : Option Job) → working (ended answer (contact_count w.server.server.ledger) job) w ≡ Some e → P (after e w)
    go None is =
        subst (λ (x : Event). P (after x w)) (sym (possible_is Event.ServerTurn e (can Event.ServerTurn w) is))
        (after_keeps Event.ServerTurn P turns w p)
    go (Some job) is =
        let same : e ≡ Event.Machine (answer job (contact_count w.server.server.ledger)) = cc in
        subst (λ (x : Event). P (after x w)) (sym same)
        (after_keeps (Event.Machine (answer job (contact_count w.server.server.ledger))) P
        (ends (answer job (contact_count w.server.server.ledger))) w p)

-- nothing is left to do after work
work_over : (answer : Job → ℕ → Outcome) (w : World) (es : List Event) → AreWork answer false w es
    → working (ending answer (run_of es w)) (run_of es w) ≡ None
work_over answer w [] h = h
work_over answer w (e ∷ es) h = work_over answer (after e w) es h.1

-- ---- bytes of connections

-- other bytes down on one connection change no bytes up
up_at : (links : List Link) (i k : ℕ) (bytes : List ℕ)
    → (slice_index_or (slice_set links i (record { up = (slice_index_or links i no_link).up; down = bytes })) k no_link).up
    ≡ (slice_index_or links k no_link).up
up_at [] i k bytes = refl
up_at (l ∷ ls) zero zero bytes = refl
up_at (l ∷ ls) zero (suc k) bytes = refl
up_at (l ∷ ls) (suc i) zero bytes = refl
up_at (l ∷ ls) (suc i) (suc k) bytes = up_at ls i k bytes

-- a connection that is given no bytes one way has none there
no_up : (links : List Link) (i : ℕ) (new : Link) → new.up ≡ [] → (slice_index_or (slice_set links i new) i no_link).up ≡ []
no_up [] i new none = refl
no_up (l ∷ ls) zero new none = none
no_up (l ∷ ls) (suc i) new none = no_up ls i new none

no_down : (links : List Link) (i : ℕ) (new : Link) → new.down ≡ [] → (slice_index_or (slice_set links i new) i no_link).down ≡ []
no_down [] i new none = refl
no_down (l ∷ ls) zero new none = none
no_down (l ∷ ls) (suc i) new none = no_down ls i new none

drop_all : (bytes : List ℕ) → drop (length bytes) bytes ≡ []
drop_all [] = refl
drop_all (b ∷ bytes) = drop_all bytes

nothing : (a b : Bool) → (a && (b && false)) ≡ false
nothing true true = refl
nothing true false = refl
nothing false b = refl

-- no byte waits that could move up, and none that could move down
abbrev CannotUp : World → Type 0
CannotUp w = can (Event.Up (length (server_link w).up)) w ≡ false

abbrev CannotDown : World → Type 0
CannotDown w = can (Event.Down (length (client_link w).down)) w ≡ false

-- no line can be read by the server
abbrev CannotRead : World → Type 0
CannotRead w = can Event.ServerReads w ≡ false

-- the server has nothing to do
abbrev IsIdle : (Job → ℕ → Outcome) → World → Type 0
IsIdle answer w = working (ending answer w) w ≡ None

no_bytes_up : (w : World) → (server_link w).up ≡ [] → CannotUp w
no_bytes_up w none =
    ap (λ (bytes : List ℕ). w.server.server.on && (is_none w.server.input.fault && has_some (length bytes) bytes)) none
    ∙ nothing w.server.server.on (is_none w.server.input.fault)

no_bytes_down : (w : World) → (client_link w).down ≡ [] → CannotDown w
no_bytes_down w none =
    ap (λ (bytes : List ℕ). w.client.client.on && (not (is_faulted w.client.client.state) && has_some (length bytes) bytes)) none
    ∙ nothing w.client.client.on (not (is_faulted w.client.client.state))

-- after all bytes that can move up have moved, no more can
up_over : (w : World) (es : List Event) → IsOne (all_up w) false es → CannotUp (run_of es w)
up_over w es one = go (can (Event.Up (length (server_link w).up)) w) refl
  where
    moves : Event
    moves = Event.Up (length (server_link w).up)

    only : (es ≡ moves ∷ []) ⊎ ((false ≡ true) × (es ≡ [])) → es ≡ moves ∷ []
    only (inl same) = same
    only (inr cut) = absurd (false≢true cut.0)

    go : (b : Bool) → can moves w ≡ b → CannotUp (run_of es w)
    go true may =
        subst (λ (x : List Event). CannotUp (run_of x w))
        (sym (only (subst (λ (o : Option Event). IsOne o false es) (possible_now moves w may) one)))
        (subst CannotUp (sym (done_now moves w may))
        (no_bytes_up (happens moves w) (no_up w.links (w.server.server.last - 1) _ (drop_all (server_link w).up))))
    go false never =
        subst (λ (x : List Event). CannotUp (run_of x w))
        (sym (subst (λ (o : Option Event). IsOne o false es) (not_possible moves w never) one)) never

-- after all bytes that can move down have moved, no more can
down_over : (w : World) (es : List Event) → IsOne (all_down w) false es → CannotDown (run_of es w)
down_over w es one = go (can (Event.Down (length (client_link w).down)) w) refl
  where
    moves : Event
    moves = Event.Down (length (client_link w).down)

    only : (es ≡ moves ∷ []) ⊎ ((false ≡ true) × (es ≡ [])) → es ≡ moves ∷ []
    only (inl same) = same
    only (inr cut) = absurd (false≢true cut.0)

    go : (b : Bool) → can moves w ≡ b → CannotDown (run_of es w)
    go true may =
        subst (λ (x : List Event). CannotDown (run_of x w))
        (sym (only (subst (λ (o : Option Event). IsOne o false es) (possible_now moves w may) one)))
        (subst CannotDown (sym (done_now moves w may))
        (no_bytes_down (happens moves w) (no_down w.links (w.client.client.last - 1) _ (drop_all (client_link w).down))))
    go false never =
        subst (λ (x : List Event). CannotDown (run_of x w))
        (sym (subst (λ (o : Option Event). IsOne o false es) (not_possible moves w never) one)) never

-- ---- what later parts keep

-- the server's side of the bytes up is as it was
record SameUp (w v : World) : Type 0 where
  pub on : v.server.server.on ≡ w.server.server.on
  pub fault : v.server.input.fault ≡ w.server.input.fault
  pub up : (server_link v).up ≡ (server_link w).up

keeps_up : (w v : World) → SameUp w v → CannotUp w → CannotUp v
keeps_up w v same h =
    ap (λ (b : Bool). b && (is_none v.server.input.fault && has_some (length (server_link v).up) (server_link v).up)) same.on
    ∙ (ap (λ (f : Option FramingFault). w.server.server.on && (is_none f && has_some (length (server_link v).up) (server_link v).up)) same.fault
    ∙ (ap (λ (bytes : List ℕ). w.server.server.on && (is_none w.server.input.fault && has_some (length bytes) bytes)) same.up ∙ h))

answers_same : (w : World) (input : Framing) (a : Answer) (acts : List Act) → Moves w.server.server a.server acts
    → input.fault ≡ w.server.input.fault → SameUp w (server_writes w (with_answer w.server input a))
answers_same w input a acts moves fault = record {
  on = moves.on;
  fault = fault;
  up = ap (λ (n : ℕ). (link_of (server_writes w (with_answer w.server input a)).links n).up) moves.last
      ∙ up_at w.links (w.server.server.last - 1) (w.server.server.last - 1) _;
}

read_keeps_up : (w : World) → can Event.ServerReads w ≡ true → CannotUp w
    → CannotUp (happens Event.ServerReads w)
read_keeps_up w may h =
    keeps_up w (happens Event.ServerReads w) (go (next_of w.server.input.rest) (and_parts _ _ (and_parts _ _ may).1).1) h
  where
    go : (f : Front) → is_line f ≡ true → SameUp w (server_writes w (front_served w.server f))
    go (Ok None) line = absurd (false≢true line)
    go (Ok (Some (line, rest))) there =
        answers_same w (record (w.server.input) { rest = rest }) (server_read w.server.server (reading_of (command_of line))) []
        (read_moves w.server.server (reading_of (command_of line))) refl
    go (Err why) line = absurd (false≢true line)

turn_keeps_up : (w : World) → CannotUp w → CannotUp (happens Event.ServerTurn w)
turn_keeps_up w h =
    let m = turned_moves w.server.server in
    keeps_up w (happens Event.ServerTurn w) (answers_same w w.server.input (server_turned w.server.server) m.0 m.1 refl) h

end_keeps_up : (o : Outcome) (w : World) → CannotUp w → CannotUp (happens (Event.Machine o) w)
end_keeps_up o w h =
    let m = machined_moves w.server.server o in
    keeps_up w (happens (Event.Machine o) w) (answers_same w w.server.input (server_machined w.server.server o) m.0 m.1 refl) h

turn_keeps_lines : (w : World) → CannotRead w → CannotRead (happens Event.ServerTurn w)
turn_keeps_lines w h =
    ap (λ (b : Bool). b && (is_none w.server.input.fault && is_line (next_of w.server.input.rest))) (turned_moves w.server.server).1.on ∙ h

end_keeps_lines : (o : Outcome) (w : World) → CannotRead w → CannotRead (happens (Event.Machine o) w)
end_keeps_lines o w h =
    ap (λ (b : Bool). b && (is_none w.server.input.fault && is_line (next_of w.server.input.rest))) (machined_moves w.server.server o).1.on ∙ h

down_keeps_up : (k : ℕ) (w : World) → CannotUp w → CannotUp (happens (Event.Down k) w)
down_keeps_up k w h = keeps_up w (happens (Event.Down k) w) (record {
  on = refl;
  fault = refl;
  up = up_at w.links (w.client.client.last - 1) (w.server.server.last - 1) _;
}) h

heard_keeps_down : (w : World) → can Event.ClientReads w ≡ true → CannotDown w
    → CannotDown (happens Event.ClientReads w)
heard_keeps_down w may h =
    let on : w.client.client.on ≡ true = (and_parts _ _ may).0 in
    let awake : not (is_faulted w.client.client.state) ≡ true = (and_parts _ _ (and_parts _ _ may).1).0 in
    let none : has_some (length (client_link w).down) (client_link w).down ≡ false = blocked _ _ _ on awake h in
    let here : (link_of w.links (happens Event.ClientReads w).client.client.last).down ≡ (client_link w).down =
    ap (λ (n : ℕ). (link_of w.links n).down) (front_few w.client.client (next_of w.client.input.rest)).last in
    ap (λ (b : Bool). (happens Event.ClientReads w).client.client.on
    && (not (is_faulted (happens Event.ClientReads w).client.client.state) && b))
    (ap (λ (bytes : List ℕ). has_some (length bytes) bytes) here ∙ none)
    ∙ nothing (happens Event.ClientReads w).client.client.on
    (not (is_faulted (happens Event.ClientReads w).client.client.state))
  where
    blocked : (a b c : Bool) → a ≡ true → b ≡ true → (a && (b && c)) ≡ false → c ≡ false
    blocked true true c on awake is = is
    blocked false b c on awake is = absurd (false≢true on)
    blocked true false c on awake is = absurd (false≢true awake)

-- what is to be done depends on the server alone
idle_by : (o : Option Event) (w v : World) → v.server ≡ w.server → working o w ≡ None → working o v ≡ None
idle_by None w v same is =
    ap (λ (s : ServerEnd). cond {A = Option Event} (is_none s.server.running && not (is_empty s.server.waiting)) (Some Event.ServerTurn) None)
    same ∙ is
idle_by (Some e) w v same is = is

heard_keeps_idle : (answer : Job → ℕ → Outcome) (w : World) → IsIdle answer w
    → IsIdle answer (happens Event.ClientReads w)
heard_keeps_idle answer w h = idle_by (ending answer w) w (happens Event.ClientReads w) refl h

down_keeps_idle : (answer : Job → ℕ → Outcome) (k : ℕ) (w : World) → IsIdle answer w
    → IsIdle answer (happens (Event.Down k) w)
down_keeps_idle answer k w h = idle_by (ending answer w) w (happens (Event.Down k) w) refl h

-- ---- a whole round

-- nothing is left to do but what is due
record Rests (answer : Job → ℕ → Outcome) (w : World) : Type 0 where
  pub up : CannotUp w
  pub lines : CannotRead w
  pub idle : IsIdle answer w
  pub down : CannotDown w
  pub heard : can Event.ClientReads w ≡ false

behind_both : (answer : Job → ℕ → Outcome) (A B : Bool → World → List Event → Type 0) (w : World) (es : List Event)
    → (h : Then A B false w es) → Rests answer (run_of h.back (run_of h.front w)) → Rests answer (run_of es w)
behind_both answer A B w es h rests =
    subst (Rests answer) (sym (ap (λ (x : List Event). run_of x w) h.whole ∙ run_append h.front h.back w)) rests

rests_heard : (answer : Job → ℕ → Outcome) (w : World) (es : List Event)
    → AreWhile Event.ClientReads false w es → CannotUp w → CannotRead w → IsIdle answer w → CannotDown w
    → Rests answer (run_of es w)
rests_heard answer w es h up lines idle down = record {
  up = while_keeps Event.ClientReads CannotUp (λ v may p. p) w es h up;
  lines = while_keeps Event.ClientReads CannotRead (λ v may p. p) w es h lines;
  idle = while_keeps Event.ClientReads (IsIdle answer) (λ v may p. heard_keeps_idle answer v p) w es h idle;
  down = while_keeps Event.ClientReads CannotDown (heard_keeps_down) w es h down;
  heard = while_over Event.ClientReads w es h;
}

-- the parts of a round, from the last on
abbrev Lowers : Bool → World → List Event → Type 0
Lowers = Then (λ cut w. IsOne (all_down w) cut) (AreWhile Event.ClientReads)

abbrev Works : (Job → ℕ → Outcome) → Bool → World → List Event → Type 0
Works answer = Then (AreWork answer) (Lowers)

abbrev Serves : (Job → ℕ → Outcome) → Bool → World → List Event → Type 0
Serves answer = Then (AreWhile Event.ServerReads) (Works answer)

abbrev Raises : (Job → ℕ → Outcome) → Bool → World → List Event → Type 0
Raises answer = Then (λ cut w. IsOne (all_up w) cut) (Serves answer)

rests_lowered : (answer : Job → ℕ → Outcome) (w : World) (es : List Event) → Lowers false w es → CannotUp w
    → CannotRead w → IsIdle answer w → Rests answer (run_of es w)
rests_lowered answer w es h up lines idle =
    let both = then_whole (λ cut w. IsOne (all_down w) cut) (AreWhile Event.ClientReads) w es h in
    let n : ℕ = length (client_link w).down in
    behind_both answer (λ cut w. IsOne (all_down w) cut) (AreWhile Event.ClientReads) w es h
    (rests_heard answer (run_of h.front w) h.back both.1
    (one_keeps (Event.Down n) CannotUp (down_keeps_up n) w h.front both.0 up)
    (one_keeps (Event.Down n) CannotRead (λ v p. p) w h.front both.0 lines)
    (one_keeps (Event.Down n) (IsIdle answer) (down_keeps_idle answer n) w h.front both.0 idle)
    (down_over w h.front both.0))

rests_worked : (answer : Job → ℕ → Outcome) (w : World) (es : List Event) → Works answer false w es → CannotUp w
    → CannotRead w → Rests answer (run_of es w)
rests_worked answer w es h up lines =
    let both = then_whole (AreWork answer) (Lowers) w es h in
    behind_both answer (AreWork answer) (Lowers) w es h
    (rests_lowered answer (run_of h.front w) h.back both.1
    (work_keeps answer CannotUp (turn_keeps_up) (end_keeps_up) w h.front both.0 up)
    (work_keeps answer CannotRead (turn_keeps_lines) (end_keeps_lines) w h.front both.0 lines)
    (work_over answer w h.front both.0))

rests_served : (answer : Job → ℕ → Outcome) (w : World) (es : List Event) → Serves answer false w es → CannotUp w
    → Rests answer (run_of es w)
rests_served answer w es h up =
    let both = then_whole (AreWhile Event.ServerReads) (Works answer) w es h in
    behind_both answer (AreWhile Event.ServerReads) (Works answer) w es h
    (rests_worked answer (run_of h.front w) h.back both.1
    (while_keeps Event.ServerReads CannotUp (read_keeps_up) w h.front both.0 up)
    (while_over Event.ServerReads w h.front both.0))

rests_raised : (answer : Job → ℕ → Outcome) (w : World) (es : List Event) → Raises answer false w es
    → Rests answer (run_of es w)
rests_raised answer w es h =
    let both = then_whole (λ cut w. IsOne (all_up w) cut) (Serves answer) w es h in
    behind_both answer (λ cut w. IsOne (all_up w) cut) (Serves answer) w es h
    (rests_served answer (run_of h.front w) h.back both.1 (up_over w h.front both.0))

rests : (answer : Job → ℕ → Outcome) (w : World) (es : List Event) → IsRound answer false w es
    → Rests answer (run_of es w)
rests answer w es h =
    let both = then_whole (AreWhile Event.ClientSends) (Raises answer) w es h in
    behind_both answer (AreWhile Event.ClientSends) (Raises answer) w es h
    (rests_raised answer (run_of h.front w) h.back both.1)

-- if nothing is due after a round, the next does nothing
pub round_still : (answer : Job → ℕ → Outcome) (w : World) (es : List Event) → IsRound answer false w es
    → due (run_of es w).client.client ≡ None → IsRound answer false (run_of es w) []
round_still answer w es h none = go (run_of es w) (rests answer w es h) none
  where
    nothing_there : (e : Event) (v : World) → can e v ≡ false → IsOne (possible e v) false []
    nothing_there e v never = subst (λ (o : Option Event). IsOne o false []) (sym (not_possible e v never)) refl

    go : (v : World) → Rests answer v → due v.client.client ≡ None → IsRound answer false v []
    go v r none = record {
      front = [];
      back = [];
      whole = refl;
      parts = inl (
        ap is_some none,
        record {
          front = [];
          back = [];
          whole = refl;
          parts = inl (
            nothing_there (Event.Up (length (server_link v).up)) v r.up,
            record {
              front = [];
              back = [];
              whole = refl;
              parts = inl (
                r.lines,
                record {
                  front = [];
                  back = [];
                  whole = refl;
                  parts = inl (
                    r.idle,
                    record {
                      front = [];
                      back = [];
                      whole = refl;
                      parts = inl (nothing_there (Event.Down (length (client_link v).down)) v r.down, r.heard);
                    },
                  );
                },
              );
            },
          );
        },
      );
    }

-- ---- its events

calm_append : (es fs : List Event) → AreCalm es → AreCalm fs → AreCalm (es ++ fs)
calm_append [] fs p q = q
calm_append (e ∷ es) fs p q = (p.0, calm_append es fs p.1 q)

while_calm : (e : Event) (w : World) (es : List Event) → is_calm e ≡ true → AreWhile e false w es → AreCalm es
while_calm e w [] calm h = tt
while_calm e w (f ∷ fs) calm h = (ap is_calm h.0 ∙ calm, while_calm e (happens e w) fs calm h.2)

one_calm : (e : Event) (w : World) (es : List Event) → is_calm e ≡ true → IsOne (possible e w) false es → AreCalm es
one_calm e w es calm one = go (possible e w) refl one
  where
    go : (o : Option Event) → possible e w ≡ o → IsOne o false es → AreCalm es
    go None is none = subst AreCalm (sym none) tt
    go (Some f) is (inl same) = subst AreCalm (sym same) (ap is_calm (possible_is e f (can e w) is) ∙ calm, tt)
    go (Some f) is (inr cut) = absurd (false≢true cut.0)

work_calm : (answer : Job → ℕ → Outcome) (w : World) (es : List Event) → AreWork answer false w es → AreCalm es
work_calm answer w [] h = tt
work_calm answer w (e ∷ es) h = (go (running_job w.server.server) h.0, work_calm answer (after e w) es h.1)
  where
    go : (job : Option Job) → working (ended answer (contact_count w.server.server.ledger) job) w ≡ Some e → is_calm e ≡ true
    go None is = ap is_calm (possible_is Event.ServerTurn e (can Event.ServerTurn w) is)
    go (Some job) is =
        let same : e ≡ Event.Machine (answer job (contact_count w.server.server.ledger)) = cc in ap is_calm same

both_calm : (A B : Bool → World → List Event → Type 0) (w : World) (es : List Event)
    → (h : Then A B false w es) → AreCalm h.front → AreCalm h.back → AreCalm es
both_calm A B w es h p q = subst AreCalm (sym h.whole) (calm_append h.front h.back p q)

lowered_calm : (w : World) (es : List Event) → Lowers false w es → AreCalm es
lowered_calm w es h =
    let both = then_whole (λ cut w. IsOne (all_down w) cut) (AreWhile Event.ClientReads) w es h in
    both_calm (λ cut w. IsOne (all_down w) cut) (AreWhile Event.ClientReads) w es h
    (one_calm (Event.Down (length (client_link w).down)) w h.front refl both.0)
    (while_calm Event.ClientReads (run_of h.front w) h.back refl both.1)

worked_calm : (answer : Job → ℕ → Outcome) (w : World) (es : List Event) → Works answer false w es → AreCalm es
worked_calm answer w es h =
    let both = then_whole (AreWork answer) (Lowers) w es h in
    both_calm (AreWork answer) (Lowers) w es h
    (work_calm answer w h.front both.0) (lowered_calm (run_of h.front w) h.back both.1)

served_calm : (answer : Job → ℕ → Outcome) (w : World) (es : List Event) → Serves answer false w es → AreCalm es
served_calm answer w es h =
    let both = then_whole (AreWhile Event.ServerReads) (Works answer) w es h in
    both_calm (AreWhile Event.ServerReads) (Works answer) w es h
    (while_calm Event.ServerReads w h.front refl both.0) (worked_calm answer (run_of h.front w) h.back both.1)

raised_calm : (answer : Job → ℕ → Outcome) (w : World) (es : List Event) → Raises answer false w es → AreCalm es
raised_calm answer w es h =
    let both = then_whole (λ cut w. IsOne (all_up w) cut) (Serves answer) w es h in
    both_calm (λ cut w. IsOne (all_up w) cut) (Serves answer) w es h
    (one_calm (Event.Up (length (server_link w).up)) w h.front refl both.0)
    (served_calm answer (run_of h.front w) h.back both.1)

cons_there : (e : Event) (es : List Event) → e ∷ es ≡ [] → ⊥
cons_there e es is = cc

-- ---- what a round begins with

-- a round that begins with a command that is due begins by sending it, and leaves less to be sent
pub round_fewer : (answer : Job → ℕ → Outcome) (w : World) (es : List Event) → IsRound answer false w es
    → is_some (due w.client.client) ≡ true → (happens Event.ClientSends w).client.client.state ≢ State.Faulted
    → (es ≢ []) × (unsent (run_of es w) < unsent w)
round_fewer answer w es h some fine =
    let both = then_whole (AreWhile Event.ClientSends) (Raises answer) w es h in
    go h.front h.back both.0 h.whole (raised_calm answer (run_of h.front w) h.back both.1)
  where
    go : (front back : List Event) → AreWhile Event.ClientSends false w front → es ≡ front ++ back → AreCalm back
        → (es ≢ []) × (unsent (run_of es w) < unsent w)
    go [] back none whole calm = absurd (false≢true (sym none ∙ some))
    go (f ∷ fs) back sends whole calm =
        let first : after f w ≡ happens Event.ClientSends w = first_is Event.ClientSends f w sends.0 sends.1 in
        let less : unsent (happens Event.ClientSends w) < unsent w = sent_less w sends.1 fine in
        let few : unsent (run_of (fs ++ back) (happens Event.ClientSends w)) ≤ unsent (happens Event.ClientSends w) =
        run_few (fs ++ back) (happens Event.ClientSends w)
        (calm_append fs back (while_calm Event.ClientSends (happens Event.ClientSends w) fs refl sends.2) calm) in
        let same : run_of es w ≡ run_of (fs ++ back) (happens Event.ClientSends w) =
        ap (λ (x : List Event). run_of x w) whole ∙ ap (run_of (fs ++ back)) first in (
          λ none. cons_there f (fs ++ back) (sym whole ∙ none),
          subst (λ (v : World). unsent v < unsent w) (sym same) (omega (arith, few, less)),
        )
