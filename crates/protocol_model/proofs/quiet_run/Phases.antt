-- A quiet round, part by part: after it no byte and no command is on its way.
use Rattle.protocol_model.proofs.Names.{[], ◌&&◌, ◌++◌, ◌∙◌, ◌∷◌, ◌≡◌, ◌≤◌, ◌⊎◌, all_down, all_up, ap, append-nil, AreWhile, AreWork, arith, Bool}
use Rattle.protocol_model.proofs.Names.{client_link, command_bytes, command_of, command_texts, cond, Down, drop, ended, ending, Err, false}
use Rattle.protocol_model.proofs.Names.{false≢true, Front, front_served, has_some, inl, inr, is_any, is_empty, is_faulted, is_line, is_none, IsOne}
use Rattle.protocol_model.proofs.Names.{IsRound, Job, le-leb, length, Line, Link, link_of, List, moved_down, nat_le, next_of, None, none_left, not}
use Rattle.protocol_model.proofs.Names.{Ok, Option, Outcome, possible, reading_of, refl, reply_bytes, reply_texts, running_job, Server, server_link}
use Rattle.protocol_model.proofs.Names.{server_writes, ServerEnd, serving_machined, serving_turned, Some, State, subst, suc, sym, Then, true, Up}
use Rattle.protocol_model.proofs.Names.{Waiting, working, ℕ}
use Rattle.protocol_model.specs.World.{after, can, happens, run_of, World}
use Rattle.protocol_model.specs.declared.events.Event.{Event}
use Rattle.protocol_model.specs.declared.events.Event.TheVariants.{ClientReads, ClientSends, Machine, ServerReads, ServerTurn}
use Rattle.protocol_model.proofs.invariant.Moves.{read_moves, turned_moves, machined_moves}
use Rattle.protocol_model.proofs.each_event.ClientEvents.{never_faulted}
use Rattle.protocol_model.proofs.written_lines.Writable.{command_lines, reply_lines}
use Rattle.protocol_model.proofs.whole_run.Carrying.{lined}
use Rattle.protocol_model.proofs.whole_run.Links.{link_same}
use Rattle.protocol_model.proofs.quiet_run.Jobs.{nothing_runs}
use Rattle.protocol_model.proofs.quiet_run.Joining.{IsOfRound, IsJoined, after_is, after_joined, IsWork, work_is, work_of}

-- ---- lists of events, and what they keep

-- what an event of a round keeps, where both ends are on one connection
abbrev pub Keeps : (Job → ℕ → Outcome) → (World → Type 0) → Type 0
Keeps answer G = (e : Event) (w : World) → IsOfRound answer w e → IsJoined w → G w → G (after e w)

-- both ends are on one connection, this holds, and the parts of a round up to here have left that
record Stands (G X : World → Type 0) (w : World) : Type 0 where
  joined : IsJoined w
  kept : G w
  left : X w

stands_after : (answer : Job → ℕ → Outcome) (G X Y : World → Type 0) → Keeps answer G
    → (e : Event) (w : World) → IsOfRound answer w e → (IsJoined w → X w → Y (after e w)) → Stands G X w
    → Stands G Y (after e w)
stands_after answer G X Y keeps e w of next h = record {
  joined = after_joined answer e w of h.joined;
  kept = keeps e w of h.joined h.kept;
  left = next h.joined h.left;
}

-- an event, again and again while it can happen
while_keeps : (e : Event) (P : World → Type 0) → ((w : World) → can e w ≡ true → P w → P (after e w))
    → (es : List Event) (w : World) → AreWhile e false w es → P w
    → P (run_of es w) × (can e (run_of es w) ≡ false)
while_keeps e P step [] w are h = (h, are)
while_keeps e P step (f ∷ es) w are h =
    let same : after f w ≡ after e w = ap (λ (x : Event). after x w) are.0 in
    let is : after f w ≡ happens e w = same ∙ after_is e w are.1 in
    while_keeps e P step es (after f w) (subst (λ (v : World). AreWhile e false v es) (sym is) are.2)
    (subst P (sym same) (step w are.1 h))

-- the work of the server
work_keeps : (answer : Job → ℕ → Outcome) (P : World → Type 0)
    → ((e : Event) (w : World) → IsWork answer w e → P w → P (after e w))
    → (es : List Event) (w : World) → AreWork answer false w es → P w
    → P (run_of es w) × (working (ending answer (run_of es w)) (run_of es w) ≡ None)
work_keeps answer P step [] w are h = (h, are)
work_keeps answer P step (e ∷ es) w are h =
    work_keeps answer P step es (after e w) are.1 (step e w (work_is answer w e are.0) h)

-- one event, if it can happen
one_keeps : (e : Event) (P Q : World → Type 0) → ((w : World) → can e w ≡ true → P w → Q (after e w))
    → (es : List Event) (w : World) → ((can e w ≡ false) → P w → Q w) → IsOne (possible e w) false es → P w → Q (run_of es w)
one_keeps e P Q step es w none is h = go (can e w) refl is
  where
    go : (t : Bool) → can e w ≡ t → IsOne (cond t (Some e) None) false es → Q (run_of es w)
    go true may (inl one) = subst (λ (l : List Event). Q (run_of l w)) (sym one) (step w may h)
    go true may (inr cut) = absurd (false≢true cut.0)
    go false may none_is = subst (λ (l : List Event). Q (run_of l w)) (sym none_is) (none may h)

-- ---- what the parts of a round leave

abbrev pub UpEmpty : World → Type 0
UpEmpty w = (server_link w).up ≡ []

abbrev pub Read : World → Type 0
Read w = UpEmpty w × (w.server.input.rest ≡ [])

abbrev pub Idle : World → Type 0
Idle w = Read w × (w.server.server.running ≡ None) × (w.server.server.waiting ≡ [])

abbrev pub DownEmpty : World → Type 0
DownEmpty w = Idle w × ((client_link w).down ≡ [])

-- a quiet round has left no byte and no command on its way
pub record IsStill (w : World) : Type 0 where
  pub joined : IsJoined w
  pub up : (server_link w).up ≡ []
  pub read : w.server.input.rest ≡ []
  pub running : w.server.server.running ≡ None
  pub waiting : w.server.server.waiting ≡ []
  pub down : (client_link w).down ≡ []
  pub heard : w.client.input.rest ≡ []

-- the connection on which both ends are is one of those that were made
record Fits (w : World) : Type 0 where
  from : 1 ≤ w.server.server.last
  to : w.server.server.last ≤ length w.links

link_fits : (w : World) → IsJoined w → Fits w
link_fits w h = record {
  from = h.carried.wired.taken h.on;
  to = subst (λ (i : ℕ). w.server.server.last ≤ i) (sym h.carried.wired.made) h.carried.wired.numbers;
}

drop_all : (bytes : List ℕ) → drop (length bytes) bytes ≡ []
drop_all [] = refl
drop_all (b ∷ bytes) = drop_all bytes

none_some : (bytes : List ℕ) → has_some (length bytes) bytes ≡ false → bytes ≡ []
none_some [] e = refl
none_some (b ∷ bytes) e = absurd (false≢true (sym e ∙ some))
  where
    n : ℕ
    n = suc (length bytes)

    some : has_some n (b ∷ bytes) ≡ true
    some = ap (λ (t : Bool). t && nat_le n n) (le-leb 1 n (omega arith)) ∙ le-leb n n (omega arith)

-- all bytes up come to the server
up_all : (w : World) → IsJoined w → can (Up (length (server_link w).up)) w ≡ true
    → UpEmpty (after (Up (length (server_link w).up)) w)
up_all w h may =
    let f : Fits w = link_fits w h in
    subst UpEmpty (sym (after_is (Up (length (server_link w).up)) w may))
    (ap (λ (l : Link). l.up) (link_same w.links w.server.server.last _ f.from f.to) ∙ drop_all (server_link w).up)

up_none : (w : World) → IsJoined w → can (Up (length (server_link w).up)) w ≡ false → UpEmpty w
up_none w h e = none_some (server_link w).up (sym (ap (λ (b : Bool). b && (is_none w.server.input.fault
    && has_some (length (server_link w).up) (server_link w).up)) h.on
    ∙ ap (λ (o : Option _). is_none o && has_some (length (server_link w).up) (server_link w).up) h.carried.server_fault) ∙ e)

-- what the server writes leaves nothing up
writes_up : (w : World) (e : ServerEnd) → IsJoined w → e.server.last ≡ w.server.server.last → UpEmpty w → UpEmpty (server_writes w e)
writes_up w e h last up =
    let f : Fits w = link_fits w h in
    ap (λ (i : ℕ). (link_of (server_writes w e).links i).up) last
    ∙ (ap (λ (l : Link). l.up) (link_same w.links w.server.server.last _ f.from f.to) ∙ up)

front_last : (e : ServerEnd) (f : Front) → (front_served e f).server.last ≡ e.server.last
front_last e (Ok None) = refl
front_last e (Ok (Some (line, rest))) = (read_moves e.server (reading_of (command_of line))).last
front_last e (Err why) = refl

reads_up : (w : World) → can ServerReads w ≡ true → IsJoined w → UpEmpty w → UpEmpty (after ServerReads w)
reads_up w may h up = subst UpEmpty (sym (after_is ServerReads w may))
    (writes_up w (front_served w.server (next_of w.server.input.rest)) h
    (front_last w.server (next_of w.server.input.rest)) up)

-- if no line is there and no byte is on the way up, all was read
no_line : (w : World) → IsJoined w → UpEmpty w → can ServerReads w ≡ false → w.server.input.rest ≡ []
no_line w h up e = go (next_of w.server.input.rest) refl not_line
  where
    not_line : is_line (next_of w.server.input.rest) ≡ false
    not_line = sym (ap (λ (b : Bool). b && (is_none w.server.input.fault && is_line (next_of w.server.input.rest))) h.on
        ∙ ap (λ (o : Option _). is_none o && is_line (next_of w.server.input.rest)) h.carried.server_fault) ∙ e

    link : (link_of w.links w.client.client.last).up ≡ []
    link = ap (λ (i : ℕ). (link_of w.links i).up) (sym h.same) ∙ up

    bytes : w.server.input.rest ≡ command_bytes h.carried.up
    bytes = sym (append-nil w.server.input.rest) ∙ (ap (λ (l : List ℕ). w.server.input.rest ++ l) (sym link)
        ∙ h.carried.wired.newest_serves h.on h.same)

    go : (f : Front) → next_of w.server.input.rest ≡ f → is_line f ≡ false → w.server.input.rest ≡ []
    go (Ok None) is l = bytes ∙ ap Rattle.line_framing.specs.Content.line_bytes
        (none_left (command_texts h.carried.up) (command_lines h.carried.up h.carried.wired.lines) (ap next_of (sym bytes) ∙ is))
    go (Ok (Some found)) is l = absurd (false≢true (sym l))
    go (Err why) is l = absurd (Rattle.line_framing.proofs.Streams.no_fault w.server.input.rest [] (command_texts h.carried.up) why
        (command_lines h.carried.up h.carried.wired.lines) (append-nil w.server.input.rest ∙ bytes) is)

-- turns and ends leave what was read
work_read : (answer : Job → ℕ → Outcome) (e : Event) (w : World) → IsWork answer w e → IsJoined w → Read w
    → Read (after e w)
work_read answer ServerTurn w h j r = go (can ServerTurn w) refl
  where
    go : (t : Bool) → can ServerTurn w ≡ t → Read (cond t (happens ServerTurn w) w)
    go true may = (writes_up w (serving_turned w.server) j (turned_moves w.server.server).1.last r.0, r.1)
    go false may = r
work_read answer (Machine outcome) w h j r = go (can (Machine outcome) w) refl
  where
    go : (t : Bool) → can (Machine outcome) w ≡ t → Read (cond t (happens (Machine outcome) w) w)
    go true may = (writes_up w (serving_machined outcome w.server) j (machined_moves w.server.server outcome).1.last r.0, r.1)
    go false may = r
work_read answer ClientSends w h j r = absurd h
work_read answer (Up k) w h j r = absurd h
work_read answer ServerReads w h j r = absurd h
work_read answer (Down k) w h j r = absurd h
work_read answer ClientReads w h j r = absurd h
work_read answer _ w h j r = absurd h

-- if the server has nothing to do, nothing runs and nothing waits
nothing_to_do : (answer : Job → ℕ → Outcome) (w : World) → IsJoined w → working (ending answer w) w ≡ None
    → (w.server.server.running ≡ None) × (w.server.server.waiting ≡ [])
nothing_to_do answer w h e = go (running_job w.server.server) refl e
  where
    empty : (l : List Waiting) → not (is_empty l) ≡ false → l ≡ []
    empty [] f = refl
    empty (x ∷ l) f = absurd (false≢true (sym f))

    turn : (t : Bool) → can ServerTurn w ≡ t → ◌≡◌ {A = Option Event} (cond t (Some ServerTurn) None) None → can ServerTurn w ≡ false
    turn true may f = absurd (cc)
    turn false may f = may

    go : (o : Option Job) → running_job w.server.server ≡ o
        → working (ended answer (Rattle.contact_ledger.specs.Ledgers.contact_count w.server.server.ledger) o) w ≡ None
        → (w.server.server.running ≡ None) × (w.server.server.waiting ≡ [])
    go (Some job) asked f = absurd (cc)
    go None asked f =
        let none : w.server.server.running ≡ None = nothing_runs w.server.server.frame w.server.server.running h.jobs asked in
        let no_turn : can ServerTurn w ≡ false = turn (can ServerTurn w) refl f in (
          none,
          empty w.server.server.waiting (sym (ap (λ (o : Option Line). is_none o && not (is_empty w.server.server.waiting)) none)
              ∙ no_turn),
        )

-- ---- down

not_faulted : (s : State) → (s ≡ State.Faulted → ⊥) → is_faulted s ≡ false
not_faulted State.Faulted h = absurd (h refl)
not_faulted State.Apart h = refl
not_faulted State.Running h = refl
not_faulted State.Aborting h = refl
not_faulted State.Failing h = refl
not_faulted State.Halted h = refl
not_faulted State.Done h = refl

client_fine : (w : World) → IsJoined w → is_faulted w.client.client.state ≡ false
client_fine w h = not_faulted w.client.client.state (never_faulted (lined w h.carried.up h.carried.down) h.carried.inv)

-- both ends are on the same bytes
same_link : (w : World) → IsJoined w → client_link w ≡ server_link w
same_link w h = ap (link_of w.links) (sym h.same)

down_all : (w : World) → IsJoined w → can (Down (length (client_link w).down)) w ≡ true → Idle w
    → DownEmpty (after (Down (length (client_link w).down)) w)
down_all w h may idle =
    let f : Fits w = link_fits w h in
    let k : ℕ = length (client_link w).down in
    let from : 1 ≤ w.client.client.last = subst (λ (i : ℕ). 1 ≤ i) h.same f.from in
    let to : w.client.client.last ≤ length w.links = subst (λ (i : ℕ). i ≤ length w.links) h.same f.to in
    let there : link_of (moved_down k w).links w.client.client.last ≡ record (client_link w) { down = drop k (client_link w).down } =
    link_same w.links w.client.client.last _ from to in
    subst DownEmpty (sym (after_is (Down k) w may)) (
      (
        (
          ap (λ (i : ℕ). (link_of (moved_down k w).links i).up) h.same ∙ (ap (λ (l : Link). l.up) there
              ∙ (ap (λ (l : Link). l.up) (same_link w h) ∙ idle.0.0)),
          idle.0.1,
        ),
        idle.1,
        idle.2,
      ),
      ap (λ (l : Link). l.down) there ∙ drop_all (client_link w).down,
    )

down_none : (w : World) → IsJoined w → can (Down (length (client_link w).down)) w ≡ false → Idle w → DownEmpty w
down_none w h e idle = (
  idle,
  none_some (client_link w).down (sym (ap (λ (b : Bool). b && (not (is_faulted w.client.client.state)
      && has_some (length (client_link w).down) (client_link w).down)) h.client_on
      ∙ ap (λ (b : Bool). not b && has_some (length (client_link w).down) (client_link w).down) (client_fine w h)) ∙ e),
)

hears_down : (w : World) → can ClientReads w ≡ true → DownEmpty w → IsJoined w → DownEmpty (after ClientReads w)
hears_down w may d h = subst DownEmpty (sym (after_is ClientReads w may)) (
  d.0,
  ap (λ (i : ℕ). (link_of w.links i).down)
      (Rattle.protocol_model.proofs.undisturbed_run.UndisturbedClient.read_last w.client.client (next_of w.client.input.rest))
      ∙ d.1,
)

-- if no line is there and no byte is on the way down, all was read
no_reply : (w : World) → IsJoined w → DownEmpty w → can ClientReads w ≡ false → w.client.input.rest ≡ []
no_reply w h d e = go (next_of w.client.input.rest) refl nothing
  where
    nothing : is_any (next_of w.client.input.rest) ≡ false
    nothing = sym (ap (λ (b : Bool). b && (not (is_faulted w.client.client.state) && is_any (next_of w.client.input.rest))) h.client_on
        ∙ ap (λ (b : Bool). not b && is_any (next_of w.client.input.rest)) (client_fine w h)) ∙ e

    bytes : w.client.input.rest ≡ reply_bytes h.carried.down
    bytes = sym (append-nil w.client.input.rest) ∙ (ap (λ (l : List ℕ). w.client.input.rest ++ l) (sym d.1)
        ∙ h.carried.wired.down_is h.client_on)

    go : (f : Front) → next_of w.client.input.rest ≡ f → is_any f ≡ false → w.client.input.rest ≡ []
    go (Ok None) is l = bytes ∙ ap Rattle.line_framing.specs.Content.line_bytes
        (none_left (reply_texts h.carried.down) (reply_lines h.carried.down h.carried.wired.replies) (ap next_of (sym bytes) ∙ is))
    go (Ok (Some found)) is l = absurd (false≢true (sym l))
    go (Err why) is l = absurd (false≢true (sym l))

-- ---- a whole round

-- two parts of a round, one after the other
pub record Cut (A B : Bool → World → List Event → Type 0) (w : World) (events : List Event) : Type 0 where
  pub front : List Event
  pub back : List Event
  pub whole : events ≡ front ++ back
  pub first : A false w front
  pub second : B false (run_of front w) back

pub cut_of : (A B : Bool → World → List Event → Type 0) (w : World) (events : List Event)
    → Then A B false w events → Cut A B w events
cut_of A B w events h = go h.parts
  where
    go : (A false w h.front × B false (run_of h.front w) h.back) ⊎ ((false ≡ true) × A true w h.front × (h.back ≡ []))
        → Cut A B w events
    go (inl both) = record { front = h.front; back = h.back; whole = h.whole; first = both.0; second = both.1 }
    go (inr cut) = absurd (false≢true cut.0)

-- lists of events, one after another
pub run_more : (xs ys : List Event) (w : World) → run_of (xs ++ ys) w ≡ run_of ys (run_of xs w)
run_more [] ys w = refl
run_more (x ∷ xs) ys w = run_more xs ys (after x w)

-- what a round leaves, and what it keeps
pub record Leaves (G : World → Type 0) (w : World) : Type 0 where
  pub still : IsStill w
  pub kept : G w

part : (A B : Bool → World → List Event → Type 0) (P Q R : World → Type 0)
    → ((es : List Event) (w : World) → A false w es → P w → Q (run_of es w))
    → ((es : List Event) (w : World) → B false w es → Q w → R (run_of es w))
    → (es : List Event) (w : World) → Then A B false w es → P w → R (run_of es w)
part A B P Q R first second es w h p =
    let c : Cut A B w es = cut_of A B w es h in
    subst R (sym (ap (λ (l : List Event). run_of l w) c.whole ∙ run_more c.front c.back w))
    (second c.back (run_of c.front w) c.second (first c.front w c.first p))

abbrev Anything : World → Type 0
Anything w = Unit {0}

-- after a round both ends are still, and what each of its events keeps is kept
pub round_still : (answer : Job → ℕ → Outcome) (G : World → Type 0) → Keeps answer G
    → (es : List Event) (w : World) → IsRound answer false w es → IsJoined w → G w → Leaves G (run_of es w)
round_still answer G keeps es w round joined kept =
    part _ _ (Stands G Anything) (Stands G Anything) (Leaves G) sends
    (part _ _ (Stands G Anything) (Stands G UpEmpty) (Leaves G) rises
    (part _ _ (Stands G UpEmpty) (Stands G Read) (Leaves G) reads
    (part _ _ (Stands G Read) (Stands G Idle) (Leaves G) works
    (part _ _ (Stands G Idle) (Stands G DownEmpty) (Leaves G) falls hears)))) es w round
    (record { joined = joined; kept = kept; left = tt })
  where
    sends : (es : List Event) (w : World) → AreWhile ClientSends false w es → Stands G Anything w
        → Stands G Anything (run_of es w)
    sends es w h s = (while_keeps ClientSends (Stands G Anything)
        (λ v may t. stands_after answer G Anything Anything keeps ClientSends v tt (λ j x. tt) t) es w h s).0

    rises : (es : List Event) (w : World) → IsOne (all_up w) false es → Stands G Anything w → Stands G UpEmpty (run_of es w)
    rises es w h s = go (can (Up (length (server_link w).up)) w) refl h
      where
        go : (t : Bool) → can (Up (length (server_link w).up)) w ≡ t
            → IsOne (cond t (Some (Up (length (server_link w).up))) None) false es → Stands G UpEmpty (run_of es w)
        go true may (inl one) = subst (λ (l : List Event). Stands G UpEmpty (run_of l w)) (sym one)
            (stands_after answer G Anything UpEmpty keeps (Up (length (server_link w).up)) w tt
            (λ j x. up_all w j may) s)
        go true may (inr cut) = absurd (false≢true cut.0)
        go false may none = subst (λ (l : List Event). Stands G UpEmpty (run_of l w)) (sym none)
            (record { joined = s.joined; kept = s.kept; left = up_none w s.joined may })

    reads : (es : List Event) (w : World) → AreWhile ServerReads false w es → Stands G UpEmpty w
        → Stands G Read (run_of es w)
    reads es w h s =
        let all = while_keeps ServerReads (Stands G UpEmpty)
        (λ v may t. stands_after answer G UpEmpty UpEmpty keeps ServerReads v tt (λ j x. reads_up v may j x) t) es w h s
        in
        record {
          joined = all.0.joined;
          kept = all.0.kept;
          left = (all.0.left, no_line (run_of es w) all.0.joined all.0.left all.1);
        }

    works : (es : List Event) (w : World) → AreWork answer false w es → Stands G Read w → Stands G Idle (run_of es w)
    works es w h s =
        let all = work_keeps answer (Stands G Read)
        (λ e v is t. stands_after answer G Read Read keeps e v (work_of answer v e is)
        (λ j x. work_read answer e v is j x) t) es w h s in
        let none = nothing_to_do answer (run_of es w) all.0.joined all.1 in
        record { joined = all.0.joined; kept = all.0.kept; left = (all.0.left, none.0, none.1) }

    falls : (es : List Event) (w : World) → IsOne (all_down w) false es → Stands G Idle w → Stands G DownEmpty (run_of es w)
    falls es w h s = go (can (Down (length (client_link w).down)) w) refl h
      where
        go : (t : Bool) → can (Down (length (client_link w).down)) w ≡ t
            → IsOne (cond t (Some (Down (length (client_link w).down))) None) false es → Stands G DownEmpty (run_of es w)
        go true may (inl one) = subst (λ (l : List Event). Stands G DownEmpty (run_of l w)) (sym one)
            (stands_after answer G Idle DownEmpty keeps (Down (length (client_link w).down)) w tt
            (λ j x. down_all w j may x) s)
        go true may (inr cut) = absurd (false≢true cut.0)
        go false may none = subst (λ (l : List Event). Stands G DownEmpty (run_of l w)) (sym none)
            (record { joined = s.joined; kept = s.kept; left = down_none w s.joined may s.left })

    hears : (es : List Event) (w : World) → AreWhile ClientReads false w es → Stands G DownEmpty w → Leaves G (run_of es w)
    hears es w h s =
        let all = while_keeps ClientReads (Stands G DownEmpty)
        (λ v may t. stands_after answer G DownEmpty DownEmpty keeps ClientReads v tt
        (λ j x. hears_down v may x j) t) es w h s in
        let d : DownEmpty (run_of es w) = all.0.left in
        record {
          still = record {
            joined = all.0.joined;
            up = d.0.0.0;
            read = d.0.0.1;
            running = d.0.1;
            waiting = d.0.2;
            down = d.1;
            heard = no_reply (run_of es w) all.0.joined d all.1;
          };
          kept = all.0.kept;
        }

-- ---- a round that does nothing

nothing_then : (A B : Bool → World → List Event → Type 0) (w : World) → ((es : List Event) → A false w es → es ≡ [])
    → ((es : List Event) → B false w es → es ≡ []) → (es : List Event) → Then A B false w es → es ≡ []
nothing_then A B w first second es h =
    let c : Cut A B w es = cut_of A B w es h in
    let none : c.front ≡ [] = first c.front c.first in
    c.whole ∙ (ap (λ (l : List Event). l ++ c.back) none
    ∙ second c.back (subst (λ (l : List Event). B false (run_of l w) c.back) none c.second))

never_while : (e : Event) (w : World) → can e w ≡ false → (es : List Event) → AreWhile e false w es → es ≡ []
never_while e w never [] h = refl
never_while e w never (f ∷ es) h = absurd (false≢true (sym never ∙ h.1))

never_one : (e : Event) (w : World) → can e w ≡ false → (es : List Event) → IsOne (possible e w) false es → es ≡ []
never_one e w never es h = go (can e w) never h
  where
    go : (t : Bool) → t ≡ false → IsOne (cond t (Some e) None) false es → es ≡ []
    go true f h = absurd (false≢true (sym f))
    go false f h = h

-- if both ends are still and nothing is due, a round does nothing
pub round_none : (answer : Job → ℕ → Outcome) (w : World) → IsStill w → can ClientSends w ≡ false
    → (es : List Event) → IsRound answer false w es → es ≡ []
round_none answer w s never =
    nothing_then _ _ w (never_while ClientSends w never)
    (nothing_then _ _ w (never_one (Up (length (server_link w).up)) w no_up)
    (nothing_then _ _ w (never_while ServerReads w no_read)
    (nothing_then _ _ w no_work
    (nothing_then _ _ w (never_one (Down (length (client_link w).down)) w no_down)
    (never_while ClientReads w no_hear)))))
  where
    no_and : (a b c : Bool) → c ≡ false → (a && (b && c)) ≡ false
    no_and true true c e = e
    no_and true false c e = refl
    no_and false b c e = refl

    no_up : can (Up (length (server_link w).up)) w ≡ false
    no_up = no_and w.server.server.on (is_none w.server.input.fault) _ (ap (λ (l : List ℕ). has_some (length l) l) s.up)

    no_read : can ServerReads w ≡ false
    no_read = no_and w.server.server.on (is_none w.server.input.fault) _ (ap (λ (l : List ℕ). is_line (next_of l)) s.read)

    no_turn : can ServerTurn w ≡ false
    no_turn = ap (λ (l : List Waiting). is_none w.server.server.running && not (is_empty l)) s.waiting
        ∙ ap (λ (o : Option Line). is_none o && false) s.running

    no_work : (es : List Event) → AreWork answer false w es → es ≡ []
    no_work [] h = refl
    no_work (e ∷ es) h = absurd (not_some (sym nothing ∙ h.0))
      where
        nothing : working (ending answer w) w ≡ None
        nothing = ap (λ (o : Option Line). working (ended answer (Rattle.contact_ledger.specs.Ledgers.contact_count w.server.server.ledger)
            (Rattle.protocol_model.specs.Server.job_run w.server.server.frame o)) w) s.running
            ∙ ap (λ (t : Bool). cond t (Some ServerTurn) None) no_turn

        not_some : ◌≡◌ {A = Option Event} None (Some e) → ⊥
        not_some f = cc

    no_down : can (Down (length (client_link w).down)) w ≡ false
    no_down = no_and w.client.client.on (not (is_faulted w.client.client.state)) _ (ap (λ (l : List ℕ). has_some (length l) l) s.down)

    no_hear : can ClientReads w ≡ false
    no_hear = no_and w.client.client.on (not (is_faulted w.client.client.state)) _ (ap (λ (l : List ℕ). is_any (next_of l)) s.heard)
