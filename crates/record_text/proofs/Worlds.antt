-- What was reported on each connection of a world is a prefix of what its server did there.
use Rattle.record_text.proofs.RunNames.{[], ◌&&◌, ◌++◌, ◌<◌, ◌∙◌, ◌∷◌, ◌≡◌, ◌≤◌, Abort, Act, acts_on, and_from, and_parts, ap, append-nil, append_assoc}
use Rattle.record_text.proofs.RunNames.{arith, behind_call, behind_calls, Bool, Call, Client, ClientEnd, cond, Connected, connection_most, done_by}
use Rattle.record_text.proofs.RunNames.{drop-length, end_read, eq-eqb, eqb, eqb-true, Err, false, false≢true, Feed, Front, front_served, IsProgram}
use Rattle.record_text.proofs.RunNames.{le-leb, Leave, length, List, lt-ltb, ltb-true, Meaning, nat_le, nat_lt, next_of, None, not, numbered, Ok}
use Rattle.record_text.proofs.RunNames.{possible, ReadOne, refl, Restart, Resume, Send, Sent, ServerEnd, Some, subst, suc, sym, Tag, take, told_behind}
use Rattle.record_text.proofs.RunNames.{told_between, told_by, true, ℕ}
use Rattle.protocol_model.specs.Claims.{Told}
use Rattle.protocol_model.specs.Client as model
use Rattle.protocol_model.specs.Lines.{reading_of}
use Rattle.protocol_model.specs.Readings.{command_of}
use Rattle.protocol_model.specs.World as world
use Rattle.protocol_model.specs.World.{after, can, happens, run_of, start, World}
use Rattle.protocol_model.specs.declared.events.Event.{Event}
use Rattle.protocol_model.specs.declared.states.State.{State}
use Rattle.protocol_model.proofs.each_event.ClientEvents.{told_now}
use Rattle.protocol_model.proofs.invariant.Moves.{acts_elsewhere, acts_more, done_on, machined_moves, Moves, read_moves, turned_moves}
use Rattle.protocol_model.proofs.whole_run.Carrying.{IsCarried, lined}
use Rattle.protocol_model.proofs.whole_run.WholeRun.{run_carried, start_carried}
use Rattle.client_core.specs.Clients as clients
use Rattle.record_text.specs.Worlds.{AreCalls, told_in}
use Rattle.record_text.proofs.Counts.{Grows, grows_told, heard_grows, numbered_done}
use Rattle.record_text.proofs.Tells.{done_here, IsHere, new_here}
use Rattle.record_text.proofs.Views.{aborts_view, none_anew, none_told, read_all, sends_view, told_to, View, view, with_none}

-- ---- prefixes

told_longer : (n : ℕ) (acts : List Act) (ledger more : List (ℕ × Act)) → Told acts ledger n → Told acts (ledger ++ more) n
told_longer n acts ledger more h = record {
  more = h.more ++ acts_on n more;
  whole = sym (append_assoc acts h.more (acts_on n more))
      ∙ (ap (λ (l : List Act). l ++ acts_on n more) h.whole ∙ sym (acts_more n ledger more));
}

-- ---- the invariant

-- what is counted on the client's connection was reported there, and what was reported on each connection was done there first
record Holds (w : World) (told : List (ℕ × Act)) : Type 0 where
  here : IsHere told (view w.client.client)
  prefix : (n : ℕ) → Told (acts_on n told) w.server.server.ledger n

-- an event that reports nothing, if the ledger only grows
quiet : (w v : World) (told more : List (ℕ × Act)) → told_to (view w.client.client) (view v.client.client) ≡ []
    → IsHere (told ++ told_to (view w.client.client) (view v.client.client)) (view v.client.client)
    → v.server.server.ledger ≡ w.server.server.ledger ++ more → Holds w told → Holds v (told ++ told_between w.client v.client)
quiet w v told more none here ledger h = record {
  here = here;
  prefix = λ n. with_none (λ (l : List (ℕ × Act)). Told (acts_on n l) v.server.server.ledger n) told
      (told_to (view w.client.client) (view v.client.client)) none
      (subst (λ (l : List (ℕ × Act)). Told (acts_on n told) l n) (sym ledger)
      (told_longer n (acts_on n told) w.server.server.ledger more (Holds.prefix h n)));
}

-- the client stays as it is
same_client : (w v : World) (told more : List (ℕ × Act)) → v.client.client ≡ w.client.client
    → v.server.server.ledger ≡ w.server.server.ledger ++ more → Holds w told → Holds v (told ++ told_between w.client v.client)
same_client w v told more same ledger h =
    let none : told_to (view w.client.client) (view v.client.client) ≡ [] =
    ap (λ (c : Client). told_to (view w.client.client) (view c)) same
    ∙ none_told w.client.client.table.tally.connection w.client.client.table.tally.counted in
    quiet w v told more none
    (with_none (λ (l : List (ℕ × Act)). IsHere l (view v.client.client)) told (told_to (view w.client.client) (view v.client.client)) none
    (subst (λ (c : Client). IsHere told (view c)) (sym same) (Holds.here h))) ledger h

-- the server stays as it is
kept_ledger : (l : List (ℕ × Act)) → l ≡ l ++ []
kept_ledger l = sym (append-nil l)

-- ---- the client reads

record IsRead (c d : Client) : Type 0 where
  on : d.on ≡ c.on
  last : d.last ≡ c.last
  more : List Act
  told : told_to (view c) (view d) ≡ numbered c.table.tally.connection more

is_read : (e : ClientEnd) → IsRead e.client (done_by ReadOne e).client
is_read e = read_all e.client (λ (d : Client). IsRead e.client d) (record {
  same = none;
  fault = λ cause. record {
    on = refl;
    last = refl;
    more = [];
    told = none_told e.client.table.tally.connection e.client.table.tally.counted;
  };
  reply = λ t m b s is. let g : Grows e.client.table.tally b.tally = heard_grows e.client.program.features e.client.table b t m is in
      record { on = refl; last = refl; more = g.more; told = grows_told e.client.table.tally b.tally g };
}) (next_of e.input.rest)
  where
    none : IsRead e.client e.client
    none = record { on = refl; last = refl; more = []; told = none_told e.client.table.tally.connection e.client.table.tally.counted }

reads : (w : World) (told : List (ℕ × Act)) → w.client.client.on ≡ true → possible ReadOne w.client ≡ true
    → Told (end_read w.client).client.table.tally.counted w.server.server.ledger (end_read w.client).client.last → Holds w told
    → Holds (happens Event.ClientReads w) (told ++ told_between w.client (end_read w.client))
reads w told on may front h =
    let c : Client = w.client.client in
    let d : Client = (end_read w.client).client in
    let r : IsRead c d = is_read w.client in
    let more : List Act = IsRead.more r in
    let here : IsHere (told ++ told_to (view c) (view d)) (view d) = done_here told ReadOne w.client may (Holds.here h) in
    let number : c.table.tally.connection ≡ c.last = IsHere.number (Holds.here h) on in
    let there : told_to (view c) (view d) ≡ done_on c.last more =
    IsRead.told r ∙ (numbered_done c.table.tally.connection more ∙ ap (λ (n : ℕ). done_on n more) number) in
    record { here = here; prefix = λ n. by n (eqb c.last n) refl (IsRead.last r) (IsHere.here here (IsRead.on r ∙ on)) there }
  where
    by : (n : ℕ) (b : Bool) → eqb w.client.client.last n ≡ b → (end_read w.client).client.last ≡ w.client.client.last
        → acts_on (end_read w.client).client.last
        (told ++ told_to (view w.client.client) (view (end_read w.client).client)) ≡ (end_read w.client).client.table.tally.counted
        → told_to (view w.client.client) (view (end_read w.client).client)
        ≡ done_on w.client.client.last (IsRead.more (is_read w.client))
        → Told (acts_on n (told ++ told_to (view w.client.client) (view (end_read w.client).client))) w.server.server.ledger n
    by n true is last counted there =
        let same : (end_read w.client).client.last ≡ n = last ∙ eqb-true w.client.client.last n is in
        subst (λ (k : ℕ). Told (acts_on k (told ++ told_to (view w.client.client) (view (end_read w.client).client)))
        w.server.server.ledger k) same
        (subst (λ (l : List Act). Told l w.server.server.ledger (end_read w.client).client.last) (sym counted) front)
    by n false other last counted there =
        let more : List Act = IsRead.more (is_read w.client) in
        let none : acts_on n (done_on w.client.client.last more) ≡ [] =
        acts_elsewhere n w.client.client.last more (λ e. false≢true (sym other ∙ eq-eqb w.client.client.last n e)) in
        let all : acts_on n (told ++ told_to (view w.client.client) (view (end_read w.client).client)) ≡ acts_on n told =
        ap (λ (l : List (ℕ × Act)). acts_on n (told ++ l)) there
        ∙ (acts_more n told (done_on w.client.client.last more)
        ∙ (ap (λ (l : List Act). acts_on n told ++ l) none ∙ append-nil (acts_on n told))) in
        subst (λ (l : List Act). Told l w.server.server.ledger n) (sym all) (Holds.prefix h n)

-- ---- what an event needs is what its call needs

apart_same : (s : State) → model.is_apart s ≡ clients.is_apart s
apart_same State.Apart = refl
apart_same State.Running = refl
apart_same State.Failing = refl
apart_same State.Aborting = refl
apart_same State.Halted = refl
apart_same State.Done = refl
apart_same State.Faulted = refl

faulted_same : (s : State) → world.is_faulted s ≡ clients.is_faulted s
faulted_same State.Apart = refl
faulted_same State.Running = refl
faulted_same State.Failing = refl
faulted_same State.Aborting = refl
faulted_same State.Halted = refl
faulted_same State.Done = refl
faulted_same State.Faulted = refl

may_connect : (w : World) → can Event.Connect w ≡ true → possible (Connected (suc w.client.client.last)) w.client ≡ true
may_connect w may =
    let c : Client = w.client.client in
    let parts = and_parts (model.is_apart c.state) (nat_lt c.last connection_most) may in
    let below : c.last < connection_most = ltb-true c.last connection_most parts.1 in
    and_from (clients.is_apart c.state) (nat_lt c.last (suc c.last) && nat_le (suc c.last) connection_most)
    (sym (apart_same c.state) ∙ parts.0)
    (and_from (nat_lt c.last (suc c.last)) (nat_le (suc c.last) connection_most) (lt-ltb c.last (suc c.last) (omega arith))
    (le-leb (suc c.last) connection_most (omega (arith, below))))

may_read : (w : World) → can Event.ClientReads w ≡ true → (w.client.client.on ≡ true) × (possible ReadOne w.client ≡ true)
may_read w may =
    let c : Client = w.client.client in
    let parts = and_parts c.on (not (world.is_faulted c.state) && world.is_any (next_of w.client.input.rest)) may in
    let fine = and_parts (not (world.is_faulted c.state)) (world.is_any (next_of w.client.input.rest)) parts.1 in (
      parts.0,
      and_from c.on (not (clients.is_faulted c.state)) parts.0 (ap not (sym (faulted_same c.state)) ∙ fine.0),
    )

-- ---- the server's events

served_ledger : (e : ServerEnd) (f : Front) → (front_served e f).server.ledger ≡ e.server.ledger ++ []
served_ledger e (Ok None) = kept_ledger e.server.ledger
served_ledger e (Ok (Some (line, rest))) = Moves.ledger (read_moves e.server (reading_of (command_of line)))
served_ledger e (Err why) = kept_ledger e.server.ledger

-- ---- each event

happens_holds : (e : Event) (w : World) (told : List (ℕ × Act)) → can e w ≡ true → IsCarried (happens e w) → Holds w told
    → Holds (happens e w) (told ++ told_between w.client (happens e w).client)
happens_holds Event.Connect w told may c h =
    quiet w (happens Event.Connect w) told [] (none_anew (suc w.client.client.last) w.client.client.table.tally.counted)
    (done_here told (Connected (suc w.client.client.last)) w.client (may_connect w may) (Holds.here h))
    (kept_ledger w.server.server.ledger) h
happens_holds (Event.Accept n) w told may c h =
    same_client w (happens (Event.Accept n) w) told [] refl (kept_ledger w.server.server.ledger) h
happens_holds Event.ClientSends w told may c h =
    quiet w (happens Event.ClientSends w) told []
    (ap (λ (v : View). told_to (view w.client.client) v)
    (sends_view w.client.client w.client.client.table.tally.unsent
    (model.next_number Tag.Std w.client.client.table.standard w.client.client.drawn))
    ∙ none_told w.client.client.table.tally.connection w.client.client.table.tally.counted)
    (done_here told Send w.client may (Holds.here h)) (kept_ledger w.server.server.ledger) h
happens_holds (Event.Up k) w told may c h =
    same_client w (happens (Event.Up k) w) told [] refl (kept_ledger w.server.server.ledger) h
happens_holds Event.ServerReads w told may c h =
    same_client w (happens Event.ServerReads w) told [] refl (served_ledger w.server (next_of w.server.input.rest)) h
happens_holds Event.ServerTurn w told may c h =
    let m = turned_moves w.server.server in
    same_client w (happens Event.ServerTurn w) told (done_on w.server.server.last m.0) refl (Moves.ledger m.1) h
happens_holds (Event.Machine outcome) w told may c h =
    let m = machined_moves w.server.server outcome in
    same_client w (happens (Event.Machine outcome) w) told (done_on w.server.server.last m.0) refl (Moves.ledger m.1) h
happens_holds (Event.Down k) w told may c h =
    same_client w (happens (Event.Down k) w) told [] refl (kept_ledger w.server.server.ledger) h
happens_holds Event.ClientReads w told may c h =
    let v : World = happens Event.ClientReads w in
    let t = told_now (lined v c.up c.down) c.inv in
    let able = may_read w may in
    reads w told able.0 able.1 (record { more = t.0; whole = t.1 }) h
happens_holds Event.ClientLeaves w told may c h =
    quiet w (happens Event.ClientLeaves w) told []
    (none_told w.client.client.table.tally.connection w.client.client.table.tally.counted)
    (done_here told Leave w.client refl (Holds.here h)) (kept_ledger w.server.server.ledger) h
happens_holds Event.ServerLeaves w told may c h =
    same_client w (happens Event.ServerLeaves w) told [] refl (kept_ledger w.server.server.ledger) h
happens_holds Event.Abort w told may c h =
    quiet w (happens Event.Abort w) told []
    (ap (λ (v : View). told_to (view w.client.client) v)
    (aborts_view w.client.client (model.next_number Tag.Event w.client.client.table.event w.client.client.event_drawn))
    ∙ none_told w.client.client.table.tally.connection w.client.client.table.tally.counted)
    (done_here told Abort w.client may (Holds.here h)) (kept_ledger w.server.server.ledger) h
happens_holds Event.Resume w told may c h =
    quiet w (happens Event.Resume w) told []
    (none_told w.client.client.table.tally.connection w.client.client.table.tally.counted)
    (done_here told Resume w.client may (Holds.here h)) (kept_ledger w.server.server.ledger) h
happens_holds (Event.ClientRestart k) w told may c h =
    quiet w (happens (Event.ClientRestart k) w) told []
    (none_anew w.client.client.last w.client.client.table.tally.counted)
    (done_here told (Restart k) w.client may (Holds.here h)) (kept_ledger w.server.server.ledger) h
happens_holds Event.ServerRestart w told may c h =
    same_client w (happens Event.ServerRestart w) told [] refl (kept_ledger w.server.server.ledger) h

after_holds : (e : Event) (w : World) (told : List (ℕ × Act)) → IsCarried (after e w) → Holds w told
    → Holds (after e w) (told ++ told_between w.client (after e w).client)
after_holds e w told c h = go (can e w) refl c
  where
    go : (b : Bool) → can e w ≡ b → IsCarried (cond b (happens e w) w)
        → Holds (cond b (happens e w) w) (told ++ told_between w.client (cond b (happens e w) w).client)
    go true may carried = happens_holds e w told may carried h
    go false never carried = same_client w w told [] refl (kept_ledger w.server.server.ledger) h

run_holds : (es : List Event) (w : World) (told : List (ℕ × Act)) → IsCarried w → Holds w told → Holds (run_of es w) (told ++ told_in es w)
run_holds [] w told c h = with_none (λ (l : List (ℕ × Act)). Holds w l) told [] refl h
run_holds (e ∷ es) w told c h =
    let carried : IsCarried (after e w) = run_carried (e ∷ []) w c in
    subst (λ (l : List (ℕ × Act)). Holds (run_of es (after e w)) l)
    (append_assoc told (told_between w.client (after e w).client) (told_in es (after e w)))
    (run_holds es (after e w) (told ++ told_between w.client (after e w).client) carried (after_holds e w told carried h))

-- from a world in which nothing has happened
pub told_is_done : (p : Meaning) (rack : List (List ℕ)) (window : ℕ) (es : List Event) (n : ℕ) → IsProgram p → window ≤ 16
    → Told (acts_on n (told_in es (start p rack window))) (run_of es (start p rack window)).server.server.ledger n
told_is_done p rack window es n program few =
    Holds.prefix (run_holds es (start p rack window) [] (start_carried p rack window program few) (record {
      here = new_here p [] window;
      prefix = λ k. record { more = []; whole = refl };
    })) n

-- ---- events are calls of the client

no_calls : (e : ClientEnd) → AreCalls e e (told_between e e)
no_calls e = record {
  calls = [];
  end_is = refl;
  told_is = none_told e.client.table.tally.connection e.client.table.tally.counted;
}

-- one call
one_call : (call : Call) (e : ClientEnd) → possible call e ≡ true → AreCalls e (done_by call e) (told_between e (done_by call e))
one_call call e may =
    let is : behind_call call e ≡ done_by call e = ap (λ (b : Bool). cond b (done_by call e) e) may in
    record {
      calls = call ∷ [];
      end_is = sym is;
      told_is = ap (λ (d : ClientEnd). told_between e d) (sym is) ∙ sym (append-nil (told_by call e));
    }

-- a call that writes, and all that is written is sent
sent_call : (call : Call) (e : ClientEnd) → possible call e ≡ true
    → AreCalls e (record (done_by call e) { out = [] }) (told_between e (record (done_by call e) { out = [] }))
sent_call call e may =
    let d : ClientEnd = done_by call e in
    let sends : Call = Sent (length d.out) in
    let is : behind_call call e ≡ d = ap (λ (b : Bool). cond b d e) may in
    let all : behind_call sends d ≡ record d { out = [] } =
    ap (λ (b : Bool). cond b (done_by sends d) d) (le-leb (length d.out) (length d.out) (omega arith))
    ∙ ap (λ (out : List ℕ). record d { out = out }) (drop-length d.out) in
    let none : told_by sends d ≡ [] =
    ap (λ (f : ClientEnd). told_between d f) all ∙ none_told d.client.table.tally.connection d.client.table.tally.counted in
    record {
      calls = call ∷ sends ∷ [];
      end_is = sym (ap (behind_call sends) is ∙ all);
      told_is = sym (ap (λ (f : ClientEnd). told_between e f ++ (told_by sends f ++ [])) is
          ∙ (ap (λ (l : List (ℕ × Act)). told_between e d ++ (l ++ [])) none ∙ append-nil (told_between e d)));
    }

happens_calls : (e : Event) (w : World) → can e w ≡ true
    → AreCalls w.client (happens e w).client (told_between w.client (happens e w).client)
happens_calls Event.Connect w may = one_call (Connected (suc w.client.client.last)) w.client (may_connect w may)
happens_calls (Event.Accept n) w may = no_calls w.client
happens_calls Event.ClientSends w may = sent_call Send w.client may
happens_calls (Event.Up k) w may = no_calls w.client
happens_calls Event.ServerReads w may = no_calls w.client
happens_calls Event.ServerTurn w may = no_calls w.client
happens_calls (Event.Machine outcome) w may = no_calls w.client
happens_calls (Event.Down k) w may =
    let c : Client = w.client.client in
    let parts = and_parts c.on (not (world.is_faulted c.state) && world.has_some k (world.client_link w).down) may in
    let fine = and_parts (not (world.is_faulted c.state)) (world.has_some k (world.client_link w).down) parts.1 in
    one_call (Feed (take k (world.client_link w).down)) w.client
    (and_from c.on (not (clients.is_faulted c.state)) parts.0 (ap not (sym (faulted_same c.state)) ∙ fine.0))
happens_calls Event.ClientReads w may = one_call ReadOne w.client (may_read w may).1
happens_calls Event.ClientLeaves w may = one_call Leave w.client refl
happens_calls Event.ServerLeaves w may = no_calls w.client
happens_calls Event.Abort w may = sent_call Abort w.client may
happens_calls Event.Resume w may = one_call Resume w.client may
happens_calls (Event.ClientRestart k) w may = one_call (Restart k) w.client may
happens_calls Event.ServerRestart w may = no_calls w.client

after_calls : (e : Event) (w : World) → AreCalls w.client (after e w).client (told_between w.client (after e w).client)
after_calls e w = go (can e w) refl
  where
    go : (b : Bool) → can e w ≡ b
        → AreCalls w.client (cond b (happens e w) w).client (told_between w.client (cond b (happens e w) w).client)
    go true may = happens_calls e w may
    go false never = no_calls w.client

ends_joined : (xs ys : List Call) (e : ClientEnd) → behind_calls (xs ++ ys) e ≡ behind_calls ys (behind_calls xs e)
ends_joined [] ys e = refl
ends_joined (x ∷ xs) ys e = ends_joined xs ys (behind_call x e)

told_joined : (xs ys : List Call) (e : ClientEnd) → told_behind (xs ++ ys) e ≡ told_behind xs e ++ told_behind ys (behind_calls xs e)
told_joined [] ys e = refl
told_joined (x ∷ xs) ys e = ap (λ (l : List (ℕ × Act)). told_by x e ++ l) (told_joined xs ys (behind_call x e))
    ∙ sym (append_assoc (told_by x e) (told_behind xs (behind_call x e)) (told_behind ys (behind_calls xs (behind_call x e))))

calls_joined : (c d e : ClientEnd) (told more : List (ℕ × Act)) → AreCalls c d told → AreCalls d e more → AreCalls c e (told ++ more)
calls_joined c d e told more f g = record {
  calls = f.calls ++ g.calls;
  end_is = g.end_is ∙ (ap (behind_calls g.calls) f.end_is ∙ sym (ends_joined f.calls g.calls c));
  told_is = ap (λ (l : List (ℕ × Act)). l ++ more) f.told_is
      ∙ (ap (λ (l : List (ℕ × Act)). told_behind f.calls c ++ l) (g.told_is ∙ ap (told_behind g.calls) f.end_is)
      ∙ sym (told_joined f.calls g.calls c));
}

pub run_calls : (es : List Event) (w : World) → AreCalls w.client (run_of es w).client (told_in es w)
run_calls [] w = record { calls = []; end_is = refl; told_is = refl }
run_calls (e ∷ es) w =
    calls_joined w.client (after e w).client (run_of es (after e w)).client (told_between w.client (after e w).client)
    (told_in es (after e w)) (after_calls e w) (run_calls es (after e w))
