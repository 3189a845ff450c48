-- Undisturbed runs follow the plan: what is written, what is done, and what is counted.
use Rattle.protocol_model.proofs.Names.{[], ◌++◌, ◌<◌, ◌∙◌, ◌∷◌, ◌≡◌, ◌≤◌, ◌⊎◌, Act, acts_in, acts_on, acts_planned, and_parts, ap, append-nil}
use Rattle.protocol_model.proofs.Names.{append_assoc, AreFirstActs, AreFirstLines, AreFirstOf, AreUndisturbed, arith, Bool, Client, client_connected}
use Rattle.protocol_model.proofs.Names.{Command, command_bytes, command_of, cond, count_open, Does, Down, eq-eqb, eqb, Err, false, false≢true}
use Rattle.protocol_model.proofs.Names.{Feature, followed, Front, front_read, front_served, homings_of, inl, inr, is_apart, is_homing, IsHomedOff}
use Rattle.protocol_model.proofs.Names.{IsProgram, IsUndisturbed, le_refl, le_trans, leb-true, length, Line, lines_from, Link, List, ltb-true}
use Rattle.protocol_model.proofs.Names.{may_end, Meaning, met, next_number, next_of, None, Ok, Option, Outcome, plan, Planned, reading_of, refl}
use Rattle.protocol_model.proofs.Names.{sends_next, Server, server_writes, ServerEnd, serving_machined, serving_turned, Some, Start, State, Std}
use Rattle.protocol_model.proofs.Names.{subst, suc, sym, Table, true, Up, without_homings, ℕ}
use Rattle.protocol_model.specs.Typed.{World as Lined}
use Rattle.protocol_model.specs.World.{after, can, connected, happens, run_of, start, World}
use Rattle.protocol_model.specs.declared.events.Event.{Event}
use Rattle.protocol_model.specs.declared.events.Event.TheVariants.{Accept, ClientSends, Connect, Machine, ServerReads, ServerTurn}
use Rattle.protocol_model.specs.declared.events.Event.TheVariants.{Abort, ClientLeaves, ClientReads, ClientRestart, Resume, ServerLeaves}
use Rattle.protocol_model.specs.declared.events.Event.TheVariants.{ServerRestart}
use Rattle.protocol_model.proofs.table.Basics.{if_true, if_false}
use Rattle.protocol_model.proofs.invariant.Served.{acts_none}
use Rattle.protocol_model.proofs.whole_run.PlainServer.{left_plain}
use Rattle.protocol_model.proofs.plan.Blocks.{program_is_plain}
use Rattle.protocol_model.proofs.plan.Fitting.{unknown}
use Rattle.protocol_model.proofs.plan.Marks.{plan_fits}
use Rattle.protocol_model.proofs.table.Replying.{reads_keeps, IsFront}
use Rattle.protocol_model.proofs.invariant.Moves.{Moves, done_on, acts_more, read_moves}
use Rattle.protocol_model.proofs.invariant.Holding.{listed, all_sent, IsNearBy, know_of, Inv, IsLive, IsOff, IsAtRest, HasState, IsHere}
use Rattle.protocol_model.proofs.invariant.Holding.{IsAhead, IsGone}
use Rattle.protocol_model.proofs.each_event.ServerEvents.{not_nothing, on_by}
use Rattle.protocol_model.proofs.each_event.ClientEvents.{told_now}
use Rattle.protocol_model.proofs.each_event.ClientWrites.{IsDue, due_is}
use Rattle.protocol_model.proofs.whole_run.Carrying.{lined, IsCarried}
use Rattle.protocol_model.proofs.whole_run.WholeRun.{happens_carried, start_carried}
use Rattle.protocol_model.proofs.undisturbed_run.Following.{AreAsked, fits_asked, first_acts, planned_more}
use Rattle.protocol_model.proofs.undisturbed_run.Homing.{FirstTells, first_tells_front, HoldsNoHoming, step_holds, waits_homes_not}
use Rattle.protocol_model.proofs.undisturbed_run.Counting.{IsCalm, Follows, reads_follow}
use Rattle.protocol_model.proofs.undisturbed_run.ServerHoming.{Tells, read_same, HomesNot, turned_tells, machined_tells}
use Rattle.protocol_model.proofs.undisturbed_run.PlaceTags.{number_at, next_is, count_calm, lines_start}
use Rattle.protocol_model.proofs.undisturbed_run.UndisturbedClient.{IsOnPlan, HasTold, front_on, read_last, sends_on, begins_on}

-- ---- acts on one connection

abbrev AreOn : ℕ → List (ℕ × Act) → Type 0
AreOn n [] = Unit {0}
AreOn n ((m, a) ∷ acts) = (m ≡ n) × AreOn n acts

on_join : (n : ℕ) (xs ys : List (ℕ × Act)) → AreOn n xs → AreOn n ys → AreOn n (xs ++ ys)
on_join n [] ys h g = g
on_join n ((m, a) ∷ xs) ys h g = (h.0, on_join n xs ys h.1 g)

on_done : (n m : ℕ) (acts : List Act) → m ≡ n → AreOn n (done_on m acts)
on_done n m [] e = tt
on_done n m (a ∷ acts) e = (e, on_done n m acts e)

-- then the acts on it are all
all_on : (n : ℕ) (acts : List (ℕ × Act)) → AreOn n acts → acts_on n acts ≡ acts_in acts
all_on n [] h = refl
all_on n ((m, a) ∷ acts) h = if_true {A = List Act} (eqb m n) (a ∷ acts_on n acts) (acts_on n acts) (eq-eqb m n h.0)
    ∙ ap (λ (l : List Act). a ∷ l) (all_on n acts h.1)

-- ---- before the connection, and on it

abbrev steps_for : Meaning → List Planned
steps_for p = plan p 0 Start.NewConnection

-- the connection of this number is not yet made; the server is homed or not, and has done these acts, none of them there
record IsAtStart (n : ℕ) (told : Bool) (p : Meaning) (base : List (ℕ × Act)) (b : World) : Type 0 where
  pub off : b.client.client.on ≡ false
  pub apart : b.client.client.state ≡ State.Apart
  pub first : suc b.client.client.last ≡ n
  pub program : b.client.client.program ≡ p
  pub features : b.client.client.table.tally.features ≡ []
  pub counted : b.client.client.table.tally.counted ≡ []
  pub written : b.written ≡ []
  pub server_off : b.server.server.on ≡ false
  pub taken : b.server.server.last ≡ b.client.client.last
  pub ledger : b.server.server.ledger ≡ base
  pub none : acts_on n base ≡ []
  pub homed : b.server.server.homed ≡ told

-- it is: the client follows its plan there, and the server has done further acts there; until there are any it is homed as it was,
-- and the first of them says that
record IsUnderWay (n : ℕ) (told : Bool) (p : Meaning) (base : List (ℕ × Act)) (b : World) : Type 0 where
  pub client : IsOnPlan n told (steps_for p) b.client.client b.written
  pub serving : b.server.server.on ≡ true → b.server.server.last ≡ n
  pub near : n ≤ suc b.server.server.last
  pub own : List (ℕ × Act)
  pub ledger : b.server.server.ledger ≡ base ++ own
  pub none : acts_on n base ≡ []
  pub own_on : AreOn n own
  pub homed : own ≡ [] → b.server.server.homed ≡ told
  pub tells : FirstTells told (acts_in own)

abbrev IsPlanned : ℕ → Bool → Meaning → List (ℕ × Act) → World → Type 0
IsPlanned n told p base b = IsAtStart n told p base b ⊎ IsUnderWay n told p base b

-- ---- the server

on_own : (l : List (ℕ × Act)) (homed : Bool) → FirstTells homed (acts_in l) → (k : List (ℕ × Act)) → (l ≡ [] → FirstTells homed (acts_in k))
    → FirstTells homed (acts_in (l ++ k))
on_own [] homed h k first = first refl
on_own ((m, Act.HomedIs told) ∷ l) homed h k first = h
on_own ((m, Act.Homed) ∷ l) homed h k first = tt
on_own ((m, Act.Moved p f) ∷ l) homed h k first = tt
on_own ((m, Act.Changed n) ∷ l) homed h k first = tt
on_own ((m, Act.Framed f) ∷ l) homed h k first = tt
on_own ((m, Act.Contact target dir tool frame point) ∷ l) homed h k first = tt

done_in : (n : ℕ) (acts : List Act) → acts_in (done_on n acts) ≡ acts
done_in n [] = refl
done_in n (a ∷ acts) = ap (λ (l : List Act). a ∷ l) (done_in n acts)

both_none : (l k : List (ℕ × Act)) → l ++ k ≡ [] → (l ≡ []) × (k ≡ [])
both_none [] k e = (refl, e)
both_none (x ∷ l) k e = absurd (cc)

none_done : (n : ℕ) (acts : List Act) → done_on n acts ≡ [] → acts ≡ []
none_done n [] e = refl
none_done n (a ∷ acts) e = absurd (cc)

server_step : (n : ℕ) (told : Bool) (p : Meaning) (base : List (ℕ × Act)) (b : World) (e : ServerEnd) → IsUnderWay n told p base b
    → b.server.server.on ≡ true → Tells told b.server.server e.server → IsUnderWay n told p base (server_writes b e)
server_step n told p base b e h on t = record {
  client = h.client;
  serving = λ still. t.moves.last ∙ h.serving on;
  near = subst (λ (i : ℕ). n ≤ suc i) (sym t.moves.last) h.near;
  own = h.own ++ done_on b.server.server.last t.acts;
  ledger = t.moves.ledger ∙ (ap (λ (l : List (ℕ × Act)). l ++ done_on b.server.server.last t.acts) h.ledger
      ∙ append_assoc base h.own (done_on b.server.server.last t.acts));
  none = h.none;
  own_on = on_join n h.own (done_on b.server.server.last t.acts) h.own_on (on_done n b.server.server.last t.acts (h.serving on));
  homed = λ e. let parts = both_none h.own (done_on b.server.server.last t.acts) e
      in t.still (none_done b.server.server.last t.acts parts.1) (h.homed parts.0);
  tells = on_own h.own told h.tells (done_on b.server.server.last t.acts) (λ e.
      subst (FirstTells told) (sym (done_in b.server.server.last t.acts)) (t.tells (h.homed e)));
}

-- no act, and the same homing
tells_nothing : (told : Bool) (s t : Server) → Moves s t [] → t.homed ≡ s.homed → Tells told s t
tells_nothing told s t moves homed = record { acts = []; moves = moves; tells = λ e. tt; still = λ none e. homed ∙ e }

front_tells : (told : Bool) (e : ServerEnd) (f : Front) → Tells told e.server (front_served e f).server
front_tells told e (Ok None) =
    tells_nothing told e.server e.server (record { on = refl; last = refl; ledger = sym (append-nil e.server.ledger) }) refl
front_tells told e (Ok (Some (line, rest))) =
    tells_nothing told e.server _ (read_moves e.server (reading_of (command_of line)))
    (read_same e.server (reading_of (command_of line)))
front_tells told e (Err why) =
    tells_nothing told e.server e.server (record { on = refl; last = refl; ledger = sym (append-nil e.server.ledger) }) refl

-- who has something to do is on a connection
turn_on : (b : World) → IsCarried b → can ServerTurn b ≡ true → b.server.server.on ≡ true
turn_on b h may = let parts = and_parts _ _ may in on_by (lined b h.up h.down) h.inv b.server.server.on refl
    (λ r e. not_nothing b.server.server.waiting parts.1 e)

machine_on : (b : World) (outcome : Outcome) → IsCarried b → can (Machine outcome) b ≡ true → b.server.server.on ≡ true
machine_on b outcome h may = on_by (lined b h.up h.down) h.inv b.server.server.on refl
    (λ r e. let no_end : may_end None outcome ≡ true = subst (λ (o : Option Line). may_end o outcome ≡ true) r may in false≢true no_end)

-- if the machine was homed, what waits does not home it: the client has sent no command that does
not_below : (a b : ℕ) → a < b → a ≡ b → ⊥
not_below a b lt e = omega (arith, lt, e)

next_homes_not : (n : ℕ) (told : Bool) (p : Meaning) (base : List (ℕ × Act)) (b : World) → IsCarried b → IsUnderWay n told p base b
    → b.server.server.on ≡ true → HomesNot told b.server.server.waiting
next_homes_not n told p base b k h on = go k.inv.side
  where
    by : (live : IsLive (lined b k.up k.down)) → (queued coming : List Line) (aborts : List ℕ)
        → IsNearBy live.table live.left k.up b.server.server.running b.server.server.waiting b.server.server.error (know_of b.server.server)
        queued coming aborts
        → HomesNot told b.server.server.waiting
    by live [] coming aborts near = subst (HomesNot told) (sym near.waiting_is) tt
    by live (x ∷ queued) coming aborts near = subst (HomesNot told) (sym near.waiting_is) (λ c is t.
        let held : HoldsNoHoming live.table.standard =
        reads_keeps b.client.client.program.features (λ (d : Table). HoldsNoHoming d.standard) (step_holds b.client.client.program.features)
        k.down b.client.client.table live.table live.reads (h.client.holds t) in
        let command : x.command ≡ c = cc in
        subst (λ (d : Command). is_homing d ≡ false) command
        (waits_homes_not (listed b.server.server.running) x queued (all_sent coming) (subst HoldsNoHoming near.standard_is held)))

    go : IsOff (lined b k.up k.down) ⊎ IsLive (lined b k.up k.down) → HomesNot told b.server.server.waiting
    go (inl off) = absurd (false≢true (sym off.off ∙ h.client.on))
    go (inr live) = placed live.place
      where
        placed : IsHere (lined b k.up k.down) live.table live.left
            ⊎ (IsAhead (lined b k.up k.down) live.table live.left ⊎ IsGone (lined b k.up k.down)) → HomesNot told b.server.server.waiting
        placed (inl here) = by live here.near.queued here.near.coming here.near.aborts here.near.by
        placed (inr (inl ahead)) =
            let same : b.server.server.last ≡ b.client.client.last = h.serving on ∙ sym h.client.first in
            let below : b.server.server.last < b.client.client.last = ahead.below in
            absurd (not_below b.server.server.last b.client.client.last below same)
        placed (inr (inr gone)) = absurd (false≢true (sym gone.off ∙ on))

-- ---- the client sends

record CanSend (c : Client) : Type 0 where
  pub failed : c.table.tally.failed ≡ false
  pub few : count_open c.table.standard ≤ 16

can_send : (w : Lined) → Inv w → w.client.state ≡ State.Running → CanSend w.client
can_send w inv running = go inv.side
  where
    go : IsOff w ⊎ IsLive w → CanSend w.client
    go (inl off) = absurd (subst IsAtRest running off.rest)
    go (inr live) = record {
      failed = subst (λ (s : State). HasState s w.client.table) running live.state;
      few = le_trans live.within inv.window;
    }

sends_stays : (n : ℕ) (told : Bool) (p : Meaning) (base : List (ℕ × Act)) (b : World) → IsCarried b → IsUnderWay n told p base b
    → (d : IsDue b.client.client)
    → IsOnPlan n told (steps_for p) (sends_next b.client.client b.client.client.table.tally.unsent
    (next_number Std b.client.client.table.standard b.client.client.drawn)).client
    (b.written ++ (b.client.out ++ command_bytes (sends_next b.client.client b.client.client.table.tally.unsent
    (next_number Std b.client.client.table.standard b.client.client.drawn)).lines))
sends_stays n told p base b k h d =
    let c : Client = b.client.client in
    let may : CanSend c = can_send (lined b k.up k.down) k.inv d.running in
    let calm : IsCalm told h.client.sent h.client.follows.finished c.table.standard c.table.tally = h.client.follows.calm may.failed in
    let few : length c.table.standard ≤ 16 = subst (λ (i : ℕ). i ≤ 16) (count_calm c.table.standard calm.calm) may.few in
    let number : next_number Std c.table.standard c.drawn ≡ Some (number_at (length h.client.sent)) =
    next_is c.table.standard (length h.client.follows.finished) (length h.client.sent) c.drawn calm.tags calm.places few h.client.drawn in
    subst (λ (o : List ℕ). IsOnPlan n told (steps_for p) (sends_next c c.table.tally.unsent (next_number Std c.table.standard
    c.drawn)).client (b.written
    ++ (o ++ command_bytes (sends_next c c.table.tally.unsent (next_number Std c.table.standard c.drawn)).lines))) (sym k.client_out)
    (subst (λ (ps : List Planned). IsOnPlan n told (steps_for p) (sends_next c ps (next_number Std c.table.standard c.drawn)).client
    (b.written ++ command_bytes (sends_next c ps (next_number Std c.table.standard c.drawn)).lines)) (sym d.unsent)
    (sends_on n told (steps_for p) c b.written d.planned d.others (next_number Std c.table.standard c.drawn) h.client d.unsent may.failed
    d.quiet number))

-- ---- events on the connection

only_one : (last m k n : ℕ) → last < m → m ≤ k → k ≡ n → n ≤ suc last → m ≡ n
only_one last m k n above made first near = omega (arith, above, made, first, near)

acts_are_own : (n : ℕ) (told : Bool) (p : Meaning) (base : List (ℕ × Act)) (b : World) (h : IsUnderWay n told p base b)
    → acts_on n b.server.server.ledger ≡ acts_in h.own
acts_are_own n told p base b h = ap (acts_on n) h.ledger ∙ (acts_more n base h.own
    ∙ (ap (λ (l : List Act). l ++ acts_on n h.own) h.none ∙ all_on n h.own h.own_on))

-- what a client has counted after what it reads is the prefix of what the server did
has_told : (n : ℕ) (told : Bool) (p : Meaning) (base : List (ℕ × Act)) (b : World)
    → IsCarried b → can ClientReads b ≡ true → IsUnderWay n told p base b
    → HasTold told (front_read b.client.client (next_of b.client.input.rest))
has_told n told p base b k may h =
    let later : World = happens ClientReads b in
    let c : IsCarried later = happens_carried ClientReads b k may in
    let front : IsFront later.client.client.table.tally.counted (acts_on later.client.client.last later.server.server.ledger) =
    told_now (lined later c.up c.down) c.inv in
    let first : later.client.client.last ≡ n = read_last b.client.client (next_of b.client.input.rest) ∙ h.client.first in
    first_tells_front told later.client.client.table.tally.counted front.0
    (subst (FirstTells told) (sym (front.1 ∙ (ap (λ (i : ℕ). acts_on i b.server.server.ledger) first ∙ acts_are_own n told p base b h)))
    h.tells)

stays_planned : (n : ℕ) (told : Bool) (p : Meaning) (base : List (ℕ × Act))
    → AreAsked (followed told (steps_for p)) → (e : Event) (b : World) → IsUndisturbed e → IsCarried b
    → can e b ≡ true → IsUnderWay n told p base b → IsUnderWay n told p base (happens e b)
stays_planned n told p base asked Connect b quiet k may h = absurd (false≢true (sym h.client.away ∙ (and_parts _ _ may).0))
stays_planned n told p base asked (Accept m) b quiet k may h =
    let parts = and_parts _ _ may in
    let numbers = and_parts _ _ parts.1 in
    let is : m ≡ n = only_one b.server.server.last m b.client.client.last n (ltb-true _ _ numbers.0)
    (subst (λ (i : ℕ). m ≤ i) k.wired.made (leb-true _ _ numbers.1)) h.client.first h.near in
    record {
      client = h.client;
      serving = λ on. is;
      near = omega (arith, is);
      own = h.own;
      ledger = h.ledger;
      none = h.none;
      own_on = h.own_on;
      homed = h.homed;
      tells = h.tells;
    }
stays_planned n told p base asked ClientSends b quiet k may h = record {
  client = sends_stays n told p base b k h (due_is b.client.client may);
  serving = h.serving;
  near = h.near;
  own = h.own;
  ledger = h.ledger;
  none = h.none;
  own_on = h.own_on;
  homed = h.homed;
  tells = h.tells;
}
stays_planned n told p base asked (Up i) b quiet k may h = record {
  client = h.client;
  serving = h.serving;
  near = h.near;
  own = h.own;
  ledger = h.ledger;
  none = h.none;
  own_on = h.own_on;
  homed = h.homed;
  tells = h.tells;
}
stays_planned n told p base asked ServerReads b quiet k may h =
    server_step n told p base b (front_served b.server (next_of b.server.input.rest)) h (and_parts _ _ may).0
    (front_tells told b.server (next_of b.server.input.rest))
stays_planned n told p base asked ServerTurn b quiet k may h =
    server_step n told p base b (serving_turned b.server) h (turn_on b k may)
    (turned_tells told b.server.server (next_homes_not n told p base b k h (turn_on b k may)))
stays_planned n told p base asked (Machine outcome) b quiet k may h =
    server_step n told p base b (serving_machined outcome b.server) h (machine_on b outcome k may)
    (machined_tells told b.server.server outcome)
stays_planned n told p base asked (Down i) b quiet k may h = record {
  client = h.client;
  serving = h.serving;
  near = h.near;
  own = h.own;
  ledger = h.ledger;
  none = h.none;
  own_on = h.own_on;
  homed = h.homed;
  tells = h.tells;
}
stays_planned n told p base asked ClientReads b quiet k may h = record {
  client = front_on n told (steps_for p) b.client.client b.written (next_of b.client.input.rest) asked h.client
      (has_told n told p base b k may h);
  serving = h.serving;
  near = h.near;
  own = h.own;
  ledger = h.ledger;
  none = h.none;
  own_on = h.own_on;
  homed = h.homed;
  tells = h.tells;
}
stays_planned n told p base asked ClientLeaves b quiet k may h = absurd quiet
stays_planned n told p base asked ServerLeaves b quiet k may h = absurd quiet
stays_planned n told p base asked Abort b quiet k may h = absurd quiet
stays_planned n told p base asked Resume b quiet k may h = absurd quiet
stays_planned n told p base asked (ClientRestart i) b quiet k may h = absurd quiet
stays_planned n told p base asked ServerRestart b quiet k may h = absurd quiet

-- ---- events before it

none_made : (last m k : ℕ) → last < m → m ≤ k → last ≡ k → ⊥
none_made last m k above made same = omega (arith, above, made, same)

begins : (n : ℕ) (told : Bool) (p : Meaning) (base : List (ℕ × Act)) (b : World) → IsAtStart n told p base b
    → IsUnderWay n told p base (connected b)
begins n told p base b h =
    let c : Client = b.client.client in
    record {
      client = subst (λ (q : Meaning). IsOnPlan n told (plan q 0 Start.NewConnection) (client_connected (suc c.last) c) []) h.program
          (subst (λ (fs : List Feature). IsOnPlan n told (plan c.program (length fs) Start.NewConnection)
          (client_connected (suc c.last) c) [])
          h.features (begins_on n told c h.first));
      serving = λ on. absurd (false≢true (sym h.server_off ∙ on));
      near = omega (arith, h.first, h.taken);
      own = [];
      ledger = h.ledger ∙ sym (append-nil base);
      none = h.none;
      own_on = tt;
      homed = λ e. h.homed;
      tells = tt;
    }

starts_planned : (n : ℕ) (told : Bool) (p : Meaning) (base : List (ℕ × Act)) (e : Event) (b : World)
    → IsUndisturbed e → IsCarried b → can e b ≡ true → IsAtStart n told p base b → IsUnderWay n told p base (happens e b)
starts_planned n told p base Connect b quiet k may h = begins n told p base b h
starts_planned n told p base (Accept m) b quiet k may h =
    let parts = and_parts _ _ may in
    let numbers = and_parts _ _ parts.1 in
    absurd (none_made b.server.server.last m b.client.client.last (ltb-true _ _ numbers.0)
    (subst (λ (i : ℕ). m ≤ i) k.wired.made (leb-true _ _ numbers.1)) h.taken)
starts_planned n told p base ClientSends b quiet k may h = let d : IsDue b.client.client = due_is b.client.client may
    in absurd (false≢true (ap is_apart (sym d.running) ∙ ap is_apart h.apart))
starts_planned n told p base (Up i) b quiet k may h = absurd (false≢true (sym h.server_off ∙ (and_parts _ _ may).0))
starts_planned n told p base ServerReads b quiet k may h = absurd (false≢true (sym h.server_off ∙ (and_parts _ _ may).0))
starts_planned n told p base ServerTurn b quiet k may h = absurd (false≢true (sym h.server_off ∙ turn_on b k may))
starts_planned n told p base (Machine outcome) b quiet k may h =
    absurd (false≢true (sym h.server_off ∙ machine_on b outcome k may))
starts_planned n told p base (Down i) b quiet k may h = absurd (false≢true (sym h.off ∙ (and_parts _ _ may).0))
starts_planned n told p base ClientReads b quiet k may h = absurd (false≢true (sym h.off ∙ (and_parts _ _ may).0))
starts_planned n told p base ClientLeaves b quiet k may h = absurd quiet
starts_planned n told p base ServerLeaves b quiet k may h = absurd quiet
starts_planned n told p base Abort b quiet k may h = absurd quiet
starts_planned n told p base Resume b quiet k may h = absurd quiet
starts_planned n told p base (ClientRestart i) b quiet k may h = absurd quiet
starts_planned n told p base ServerRestart b quiet k may h = absurd quiet

-- ---- all of a list

record IsRunning (n : ℕ) (told : Bool) (p : Meaning) (base : List (ℕ × Act)) (b : World) : Type 0 where
  pub carried : IsCarried b
  pub planned : IsPlanned n told p base b

happens_planned : (n : ℕ) (told : Bool) (p : Meaning) (base : List (ℕ × Act))
    → AreAsked (followed told (steps_for p)) → (e : Event) (b : World) → IsUndisturbed e → IsCarried b
    → can e b ≡ true → IsPlanned n told p base b → IsPlanned n told p base (happens e b)
happens_planned n told p base asked e b quiet k may (inl h) = inr (starts_planned n told p base e b quiet k may h)
happens_planned n told p base asked e b quiet k may (inr h) =
    inr (stays_planned n told p base asked e b quiet k may h)

after_planned : (n : ℕ) (told : Bool) (p : Meaning) (base : List (ℕ × Act))
    → AreAsked (followed told (steps_for p)) → (e : Event) (b : World)
    → IsUndisturbed e → IsRunning n told p base b → (t : Bool) → can e b ≡ t → IsRunning n told p base (cond t (happens e b) b)
after_planned n told p base asked e b quiet h true may = record {
  carried = happens_carried e b h.carried may;
  planned = happens_planned n told p base asked e b quiet h.carried may h.planned;
}
after_planned n told p base asked e b quiet h false may = h

run_planned : (n : ℕ) (told : Bool) (p : Meaning) (base : List (ℕ × Act))
    → AreAsked (followed told (steps_for p)) → (es : List Event) (b : World)
    → AreUndisturbed es → IsRunning n told p base b → IsRunning n told p base (run_of es b)
run_planned n told p base asked [] b quiet h = h
run_planned n told p base asked (e ∷ es) b quiet h = run_planned n told p base asked es (after e b) quiet.1
    (after_planned n told p base asked e b quiet.0 h (can e b) refl)

steps_asked : (p : Meaning) → IsProgram p → AreAsked (steps_for p)
steps_asked p program = fits_asked (steps_for p) unknown (plan_fits p 0 Start.NewConnection unknown (program_is_plain p program))

from_start : (p : Meaning) (rack : List (List ℕ)) (window : ℕ) (es : List Event) → IsProgram p
    → window ≤ 16 → AreUndisturbed es → IsRunning 1 false p [] (run_of es (start p rack window))
from_start p rack window es program le quiet =
    run_planned 1 false p [] (steps_asked p program) es (start p rack window) quiet
    (record {
      carried = start_carried p rack window program le;
      planned = inl (record {
        off = refl;
        apart = refl;
        first = refl;
        program = refl;
        features = refl;
        counted = refl;
        written = refl;
        server_off = refl;
        taken = refl;
        ledger = refl;
        none = refl;
        homed = refl;
      });
    })

-- ---- the claims

-- what is written are the first lines of the plan as it is followed
first_lines : (n : ℕ) (told : Bool) (p : Meaning) (base : List (ℕ × Act)) (b : World) → IsPlanned n told p base b
    → AreFirstLines b.written (followed told (steps_for p))
first_lines n told p base b (inl h) = record {
  lines = [];
  more = lines_from 0 (followed told (steps_for p));
  parts = refl;
  bytes = h.written;
}
first_lines n told p base b (inr h) =
    let left : List Planned = followed told b.client.client.table.tally.unsent in
    record {
      lines = lines_from 0 h.client.sent;
      more = lines_from (length h.client.sent) left;
      parts = sym (lines_start h.client.sent left) ∙ ap (lines_from 0) h.client.follows.whole;
      bytes = h.client.written_is;
    }

acts_are_on : (p : Meaning) (b : World) (h : IsUnderWay 1 false p [] b) → acts_on b.client.client.last b.server.server.ledger
    ≡ acts_in b.server.server.ledger
acts_are_on p b h = ap (λ (n : ℕ). acts_on n b.server.server.ledger) h.client.first
    ∙ (acts_are_own 1 false p [] b h ∙ ap acts_in (sym h.ledger))

done_acts : (p : Meaning) (b : World) → AreAsked (steps_for p) → IsCarried b → IsPlanned 1 false p [] b
    → AreFirstActs (acts_in b.server.server.ledger) (acts_planned (steps_for p))
done_acts p b asked k (inl h) = subst (λ (l : List (ℕ × Act)). AreFirstActs (acts_in l) (acts_planned (steps_for p))) (sym h.ledger) tt
done_acts p b asked k (inr h) = go k.inv.side
  where
    go : IsOff (lined b k.up k.down) ⊎ IsLive (lined b k.up k.down)
        → AreFirstActs (acts_in b.server.server.ledger) (acts_planned (steps_for p))
    go (inl off) = absurd (false≢true (sym off.off ∙ h.client.on))
    go (inr live) =
        let tells : FirstTells false live.table.tally.counted = subst (FirstTells false) (sym (live.counted ∙ (acts_are_on p b h
        ∙ ap acts_in h.ledger))) h.tells in
        let f : Follows false (steps_for p) h.client.sent live.table =
        reads_follow b.client.client.program.features false (steps_for p) h.client.sent asked k.down b.client.client.table live.table
        live.reads tells h.client.follows in
        let whole : acts_planned f.finished ++ acts_planned live.table.tally.todo ≡ acts_planned (steps_for p) =
        sym (planned_more f.finished live.table.tally.todo) ∙ ap acts_planned f.parts in
        subst (λ (l : List Act). AreFirstActs l (acts_planned (steps_for p))) (live.counted ∙ acts_are_on p b h)
        (subst (λ (ds : List Does). AreFirstActs live.table.tally.counted ds) whole
        (first_acts live.table.tally.counted (acts_planned f.finished) (acts_planned live.table.tally.todo) f.acts))

counted_acts : (p : Meaning) (b : World) → IsCarried b → IsPlanned 1 false p [] b
    → AreFirstOf b.client.client.table.tally.counted (acts_in b.server.server.ledger)
counted_acts p b k (inl h) = record {
  more = acts_in b.server.server.ledger;
  parts = ap (λ (l : List Act). l ++ acts_in b.server.server.ledger) h.counted;
}
counted_acts p b k (inr h) =
    let told : IsFront b.client.client.table.tally.counted (acts_on b.client.client.last b.server.server.ledger) =
    told_now (lined b k.up k.down) k.inv in
    record { more = told.0; parts = told.1 ∙ acts_are_on p b h }

-- the lines that are written are the first of the plan
pub undisturbed_lines : (p : Meaning) (rack : List (List ℕ)) (window : ℕ) (es : List Event)
    → IsProgram p → window ≤ 16 → AreUndisturbed es
    → AreFirstLines (run_of es (start p rack window)).written (plan p 0 Start.NewConnection)
undisturbed_lines p rack window es program le quiet =
    first_lines 1 false p [] (run_of es (start p rack window))
    (from_start p rack window es program le quiet).planned

-- the acts of the server are the first that the plan means
pub undisturbed_acts : (p : Meaning) (rack : List (List ℕ)) (window : ℕ) (es : List Event)
    → IsProgram p → window ≤ 16 → AreUndisturbed es
    → AreFirstActs (acts_in (run_of es (start p rack window)).server.server.ledger) (acts_planned (plan p 0 Start.NewConnection))
undisturbed_acts p rack window es program le quiet =
    let h : IsRunning 1 false p [] (run_of es (start p rack window)) = from_start p rack window es program le quiet in
    done_acts p (run_of es (start p rack window)) (steps_asked p program) h.carried h.planned

-- what is counted is the prefix of these acts
pub undisturbed_counts : (p : Meaning) (rack : List (List ℕ)) (window : ℕ) (es : List Event)
    → IsProgram p → window ≤ 16 → AreUndisturbed es
    → AreFirstOf (run_of es (start p rack window)).client.client.table.tally.counted
    (acts_in (run_of es (start p rack window)).server.server.ledger)
undisturbed_counts p rack window es program le quiet =
    let h : IsRunning 1 false p [] (run_of es (start p rack window)) = from_start p rack window es program le quiet in
    counted_acts p (run_of es (start p rack window)) h.carried h.planned

-- ---- a machine that is homed

-- from a new client and a server that has left its connection all holds
met_carried : (p : Meaning) (window : ℕ) (s : ServerEnd) (links : List Link) → IsProgram p → window ≤ 16 → IsHomedOff s links
    → IsCarried (met p window s links)
met_carried p window s links program le h = record {
  up = [];
  down = [];
  inv = record {
    program = program_is_plain p program;
    window = le;
    numbers = le_refl s.server.last;
    ledger = h.ledger;
    idle = λ e. record { running = refl; waiting = refl; error = refl };
    side = inl (record { off = refl; rest = tt; served = tt; told = (acts_on s.server.last s.server.ledger, refl) });
  };
  client = record { program = program; drawn = omega arith; event_drawn = omega arith; unsent = tt; no_abort = tt };
  server = left_plain s.server s.server.homed s.server.tool;
  client_out = refl;
  server_out = refl;
  client_fault = refl;
  server_fault = refl;
  at_rest = λ e. refl;
  wired = record {
    made = h.made;
    numbers = le_refl s.server.last;
    first = λ e. absurd (false≢true e);
    taken = λ e. absurd (false≢true e);
    lines = tt;
    replies = tt;
    down_is = λ e. absurd (false≢true e);
    newest_waits = λ lt. absurd (below s.server.last lt);
    newest_serves = λ e. absurd (false≢true e);
    waits = λ k lt le. absurd (between k s.server.last lt le);
    serves = λ e. absurd (false≢true e);
  };
}
  where
    below : (n : ℕ) → suc n ≤ n → ⊥
    below n h = omega (arith, h)

    between : (k n : ℕ) → suc n ≤ k → k ≤ n → ⊥
    between k n a b = omega (arith, a, b)

without_asked : (ps : List Planned) → AreAsked ps → AreAsked (without_homings ps)
without_asked [] h = tt
without_asked (p ∷ ps) h = go (is_homing p.command) refl (without_asked ps h.1)
  where
    go : (b : Bool) → is_homing p.command ≡ b → AreAsked (without_homings ps) → AreAsked (without_homings (p ∷ ps))
    go true e later =
        subst AreAsked (sym (if_true {A = List Planned} (is_homing p.command) (without_homings ps) (p ∷ without_homings ps) e)) later
    go false e later = subst AreAsked (sym (if_false {A = List Planned} (is_homing p.command) (without_homings ps)
        (p ∷ without_homings ps) e))
        (h.0, later)

-- the lines that are written there are the first of the plan without its homing
pub homed_lines : (p : Meaning) (window : ℕ) (s : ServerEnd) (links : List Link)
    (es : List Event) → IsProgram p → window ≤ 16 → IsHomedOff s links → AreUndisturbed es
    → AreFirstLines (run_of es (met p window s links)).written (followed true (plan p 0 Start.NewConnection))
homed_lines p window s links es program le h quiet =
    first_lines (suc s.server.last) true p s.server.ledger (run_of es (met p window s links))
    (run_planned (suc s.server.last) true p s.server.ledger (without_asked (steps_for p) (steps_asked p program)) es
    (met p window s links) quiet (record {
      carried = met_carried p window s links program le h;
      planned = inl (record {
        off = refl;
        apart = refl;
        first = refl;
        program = refl;
        features = refl;
        counted = refl;
        written = refl;
        server_off = refl;
        taken = refl;
        ledger = refl;
        none = acts_none s.server.last (suc s.server.last) s.server.ledger h.ledger (omega arith);
        homed = h.homed;
      });
    })).planned

-- and none of them homes the machine
pub no_homings : (ps : List Planned) → homings_of (followed true ps) ≡ []
no_homings [] = refl
no_homings (p ∷ ps) = go (is_homing p.command) refl (no_homings ps)
  where
    go : (b : Bool) → is_homing p.command ≡ b → homings_of (without_homings ps) ≡ [] → homings_of (without_homings (p ∷ ps)) ≡ []
    go true e later = ap homings_of (if_true {A = List Planned} (is_homing p.command) (without_homings ps) (p ∷ without_homings ps) e)
        ∙ later
    go false e later =
        ap homings_of (if_false {A = List Planned} (is_homing p.command) (without_homings ps) (p ∷ without_homings ps) e)
        ∙ (if_false {A = List Planned} (is_homing p.command) (p ∷ homings_of (without_homings ps)) (homings_of (without_homings ps)) e
        ∙ later)
