-- Quiet rounds from both ends, connected again: the client is Done, and holds what the program plainly measures.
use Rattle.protocol_model.proofs.Names.{[], ◌&&◌, ◌++◌, ◌<◌, ◌||◌, ◌∙◌, ◌∷◌, ◌≡◌, ◌≤◌, ◌⊎◌, Act, all_of, ap, append-nil, append_cancel_left}
use Rattle.protocol_model.proofs.Names.{AreAllBusy, AreInReach, AreObeyed, AreWhile, arith, as_measured, Bool, CanFinish, CanMeasure, Client}
use Rattle.protocol_model.proofs.Names.{client_link, Command, command_bytes, command_of, command_texts, cond, contact_count, count_open, Down, drop}
use Rattle.protocol_model.proofs.Names.{eqb, false, false≢true, Feature, first_due, front_served, HasMeasured, inl, inr, is_asking, is_clearing}
use Rattle.protocol_model.proofs.Names.{is_empty, is_running, is_some, IsProgram, IsRound, Job, le-leb, length, Line, link_of, List, may_end, may_go}
use Rattle.protocol_model.proofs.Names.{Meaning, MeasuredFeature, nat_lt, next_of, None, none_left, not, Ok, OpenCommand, Option, Outcome}
use Rattle.protocol_model.proofs.Names.{plain_execution, plan_left, Planned, reading_of, refl, rejoined, Reply, reply_bytes, reply_texts, Some, Start}
use Rattle.protocol_model.proofs.Names.{State, subst, suc, sym, Table, true, Up, Wanted, ℕ}
use Rattle.protocol_model.specs.World.{after, can, happens, run_of, start, World}
use Rattle.protocol_model.specs.declared.events.Event.{Event}
use Rattle.protocol_model.specs.declared.events.Event.TheVariants.{Accept, ClientSends, Connect, Machine, ServerReads, ServerTurn}
use Rattle.protocol_model.specs.declared.events.Event.TheVariants.{Abort, ClientLeaves, ClientReads, ClientRestart, Resume, ServerLeaves}
use Rattle.protocol_model.specs.declared.events.Event.TheVariants.{ServerRestart}
use Rattle.protocol_model.proofs.table.Replying.{Reads, front_refl}
use Rattle.protocol_model.proofs.plan.Marks.{touches_in, plan_touches}
use Rattle.protocol_model.proofs.invariant.Served.{have_drop, program_has}
use Rattle.protocol_model.proofs.invariant.Moves.{read_moves, turned_moves, machined_moves}
use Rattle.protocol_model.proofs.invariant.Holding.{listed, all_received, all_sent, all_wait, abort_lines, commands_in, know_of, IsClean}
use Rattle.protocol_model.proofs.invariant.LineFacts.{no_steps}
use Rattle.protocol_model.proofs.each_event.ServerEvents.{not_nothing, on_by}
use Rattle.protocol_model.proofs.written_lines.Writable.{command_lines, reply_lines}
use Rattle.protocol_model.proofs.whole_run.Carrying.{lined, IsCarried}
use Rattle.protocol_model.proofs.whole_run.SameProgram.{run_window}
use Rattle.protocol_model.proofs.whole_run.WholeRun.{happens_carried, run_carried, start_carried}
use Rattle.protocol_model.proofs.quiet_run.Phases.{IsStill, Leaves, Cut, cut_of}
use Rattle.protocol_model.proofs.quiet_run.Rejoining.{IsRejoined, begun, rejoins}
use Rattle.protocol_model.proofs.quiet_run.Bounded.{Behind, rounds_leave}
use Rattle.protocol_model.proofs.quiet_run.Ready.{plan_opened, rest_of, rest_plain, measured_more, IsReady}
use Rattle.protocol_model.proofs.quiet_run.Succeeding.{ReadyAt}
use Rattle.protocol_model.proofs.quiet_run.Going.{IsGoing, IsGood, Here, here_of, keeps_good}

-- ---- a server on no connection has no session

abbrev IsClosed : World → Type 0
IsClosed b = b.server.server.on ≡ false → b.server.server.session ≡ false

happens_closed : (e : Event) (b : World) → IsCarried b → IsClosed b → can e b ≡ true → IsClosed (happens e b)
happens_closed Connect b k h may = h
happens_closed (Accept n) b k h may = λ off. absurd (false≢true (sym off))
happens_closed ClientSends b k h may = h
happens_closed (Up n) b k h may = h
happens_closed ServerReads b k h may = λ off. absurd (false≢true (sym off ∙ (reads (next_of b.server.input.rest)
    ∙ (Rattle.std.proofs.lemmas.Bool.and_parts b.server.server.on _ may).0)))
  where
    reads : (f : Rattle.line_framing.specs.Next.Front) → (front_served b.server f).server.on ≡ b.server.server.on
    reads (Ok None) = refl
    reads (Ok (Some (line, rest))) = (read_moves b.server.server (reading_of (command_of line))).on
    reads (Rattle.std.proofs.Common.Err why) = refl
happens_closed ServerTurn b k h may = λ off. absurd (false≢true (sym off ∙ ((turned_moves b.server.server).1.on ∙ on)))
  where
    on : b.server.server.on ≡ true
    on = on_by (lined b k.up k.down) k.inv b.server.server.on refl (λ r e. not_nothing b.server.server.waiting
        (Rattle.std.proofs.lemmas.Bool.and_parts (Rattle.std.proofs.Common.is_none b.server.server.running)
        (not (is_empty b.server.server.waiting)) may).1 e)
happens_closed (Machine outcome) b k h may =
    λ off. absurd (false≢true (sym off ∙ ((machined_moves b.server.server outcome).1.on ∙ on)))
  where
    on : b.server.server.on ≡ true
    on = on_by (lined b k.up k.down) k.inv b.server.server.on refl
        (λ r e. let no_end : may_end None outcome ≡ true = subst (λ (o : Option Line). may_end o outcome ≡ true) r may in false≢true no_end)
happens_closed (Down n) b k h may = h
happens_closed ClientReads b k h may = h
happens_closed ClientLeaves b k h may = h
happens_closed ServerLeaves b k h may = λ off. refl
happens_closed Abort b k h may = h
happens_closed Resume b k h may = h
happens_closed (ClientRestart n) b k h may = h
happens_closed ServerRestart b k h may = λ off. refl

run_closed : (es : List Event) (b : World) → IsCarried b → IsClosed b
    → IsClosed (run_of es b)
run_closed [] b k h = h
run_closed (e ∷ es) b k h =
    let both = next (can e b) refl in run_closed es (after e b) both.0 both.1
  where
    next : (t : Bool) → can e b ≡ t → IsCarried (cond t (happens e b) b) × IsClosed (cond t (happens e b) b)
    next true may = (happens_carried e b k may, happens_closed e b k h may)
    next false may = (k, h)

-- ---- if no byte is on its way, no line is

no_texts : (rs : List Reply) → reply_texts rs ≡ [] → rs ≡ []
no_texts [] e = refl
no_texts (r ∷ rs) e = absurd (cc)

no_command_texts : (ls : List Line) → command_texts ls ≡ [] → ls ≡ []
no_command_texts [] e = refl
no_command_texts (l ∷ ls) e = absurd (cc)

still_down : (w : World) → IsStill w → (k : IsCarried w) → k.down ≡ []
still_down w s k =
    let bytes : [] ≡ reply_bytes k.down = sym (ap (λ (l : List ℕ). l ++ (client_link w).down) s.heard ∙ s.down)
    ∙ k.wired.down_is s.joined.client_on in
    no_texts k.down (none_left (reply_texts k.down) (reply_lines k.down k.wired.replies) (ap next_of (sym bytes)))

still_up : (w : World) → IsStill w → (k : IsCarried w) → k.up ≡ []
still_up w s k =
    let link : (link_of w.links w.client.client.last).up ≡ [] = ap (λ (i : ℕ). (link_of w.links i).up) (sym s.joined.same) ∙ s.up in
    let bytes : [] ≡ command_bytes k.up = sym (ap (λ (l : List ℕ). l ++ (link_of w.links w.client.client.last).up) s.read ∙ link)
    ∙ k.wired.newest_serves s.joined.on s.joined.same in
    no_command_texts k.up (none_left (command_texts k.up) (command_lines k.up k.wired.lines) (ap next_of (sym bytes)))

-- ---- the beginning

-- what is to be held in the end
abbrev goal_of : (Job → ℕ → Outcome) → World → List MeasuredFeature
goal_of answer b = as_measured b.client.client.table.tally.features ++ plain_execution answer (contact_count b.server.server.ledger)
    (drop (length b.client.client.table.tally.features) b.client.client.program.features)

begins_good : (answer : Job → ℕ → Outcome) (b w : World) → IsRejoined b w → IsClosed b → CanMeasure answer b
    → IsGood answer (goal_of answer b) b.client.client.table.tally.features w
begins_good answer b w r closed can_measure = record {
  carried = r.still.joined.carried;
  going = inl (r.running, ap (λ (t : Table). is_empty t.tally.todo) r.table);
  error = r.error;
  ready = λ t reads. subst (λ (x : Table). ReadyAt answer goal kept ws w.server.server x.tally)
      (sym r.table ∙ subst (λ (l : List Reply). Reads ws w.client.client.table l t) (still_down w r.still r.still.joined.carried) reads)
      ready;
}
  where
    kept : List Feature
    kept = b.client.client.table.tally.features

    goal : List MeasuredFeature
    goal = goal_of answer b

    ws : List Wanted
    ws = w.client.client.program.features

    n : ℕ
    n = contact_count b.server.server.ledger

    ready : ReadyAt answer (goal_of answer b) b.client.client.table.tally.features w.client.client.program.features w.server.server
        (begun b).tally
    ready = record {
      failed = refl;
      opened = subst (λ (s : Bool). Rattle.protocol_model.proofs.quiet_run.Ready.Opened s w.server.server.homed (plan_left b))
          (sym (r.session closed)) (plan_opened b.client.client.program (length kept) w.server.server.homed);
      reach = subst (λ (l : List (List ℕ)). AreInReach l (plan_left b)) (sym r.rack) can_measure.reach;
      obeys = subst (λ (l : List (ℕ × Act)). AreObeyed answer (contact_count l) (plan_left b)) (sym r.ledger) can_measure.obeys;
      front = front_refl b.client.client.table.tally.features;
      rest = ap (λ (l : List (ℕ × Act)). as_measured kept ++ rest_of answer (contact_count l) (drop (length kept) ws) []
          (touches_in (plan_left b))) r.ledger
          ∙ (ap (λ (p : Meaning). as_measured kept ++ rest_of answer n (drop (length kept) p.features) []
          (touches_in (plan_left b))) r.program
          ∙ (ap (λ (l : List _). as_measured kept ++ rest_of answer n (drop (length kept) b.client.client.program.features) [] l)
          (plan_touches b.client.client.program (length kept) Start.NewConnection plain)
          ∙ ap (λ (l : List MeasuredFeature). as_measured kept ++ l)
          (rest_plain answer n (drop (length kept) b.client.client.program.features)
          (have_drop (length kept) b.client.client.program.features (program_has b.client.client.program plain)))));
    }
      where
        plain : Rattle.protocol_model.proofs.plan.Blocks.IsPlain b.client.client.program
        plain = subst Rattle.protocol_model.proofs.plan.Blocks.IsPlain r.program r.still.joined.carried.inv.program

-- ---- the end

-- if both ends are still and nothing is due, the client has done all
record IsAll (w : World) : Type 0 where
  done : w.client.client.state ≡ State.Done
  todo : w.client.client.table.tally.todo ≡ []

open_none : (window : ℕ) (c : Command) → 1 ≤ window → may_go window 0 c ≡ true
open_none window c le = ap (λ (t : Bool). t && (not (is_clearing c) || eqb 0 0)) (le-leb 1 window le) ∙ or_zero (not (is_clearing c))
  where
    or_zero : (t : Bool) → (t || true) ≡ true
    or_zero true = refl
    or_zero false = refl

all_done : (answer : Job → ℕ → Outcome) (goal : List MeasuredFeature) (kept : List Feature) (w : World) → IsStill w
    → IsGood answer goal kept w
    → 1 ≤ w.client.client.window → can ClientSends w ≡ false → IsAll w
all_done answer goal kept w s g window never = go g.going
  where
    c : Client
    c = w.client.client

    here : Here w g.carried
    here = here_of w g.carried s.joined.client_on s.joined.on s.joined.same

    same : c.table ≡ here.live.table
    same = subst (λ (l : List Reply). Reads c.program.features c.table l here.live.table) (still_down w s g.carried) here.live.reads

    -- nothing waits, nothing comes
    queued : here.near.queued ≡ []
    queued = no_lines here.near.queued (sym here.near.by.waiting_is ∙ s.waiting)
      where
        no_lines : (ls : List Line) → all_wait ls ≡ [] → ls ≡ []
        no_lines [] e = refl
        no_lines (l ∷ ls) e = absurd (cc)

    coming : here.near.coming ≡ []
    coming = front_none here.near.coming (abort_lines here.near.aborts) (sym here.near.by.up_is ∙ still_up w s g.carried)
      where
        front_none : (ls ms : List Line) → ls ++ ms ≡ [] → ls ≡ []
        front_none [] ms e = refl
        front_none (l ∷ ls) ms e = absurd (cc)

    standard : c.table.standard ≡ []
    standard = ap (λ (t : Table). t.standard) same ∙ (here.near.by.standard_is
        ∙ (ap (λ (o : Option Line). all_received (listed o ++ here.near.queued) ++ all_sent here.near.coming) s.running
        ∙ (ap (λ (l : List Line). all_received l ++ all_sent here.near.coming) queued
        ∙ ap (λ (l : List Line). all_sent l) coming)))

    failed : here.live.table.tally.failed ≡ false
    failed = (g.ready here.live.table here.live.reads).failed

    lines : listed w.server.server.running ++ (here.near.queued ++ here.near.coming) ≡ []
    lines = ap (λ (o : Option Line). listed o ++ (here.near.queued ++ here.near.coming)) s.running
        ∙ (ap (λ (l : List Line). l ++ here.near.coming) queued ∙ coming)

    clean : IsClean here.live.table.tally here.live.left (listed w.server.server.running ++ (here.near.queued ++ here.near.coming))
        w.server.server.error (know_of w.server.server)
    clean = here.near.by.clean failed

    left : c.table.tally.todo ≡ c.table.tally.unsent
    left = ap (λ (t : Table). t.tally.todo) same ∙ (clean.todo
        ∙ (ap (λ (l : List Planned). l ++ here.live.table.tally.unsent) (no_steps clean.steps (clean.commands ∙ ap commands_in lines))
        ∙ ap (λ (t : Table). t.tally.unsent) (sym same)))

    due_now : (ps : List Planned) → c.table.tally.unsent ≡ ps → is_empty ps ≡ false → c.state ≡ State.Running → can ClientSends w ≡ true
    due_now [] e some running = absurd (false≢true (sym some))
    due_now (p ∷ ps) e some running =
        ap (λ (x : State). is_some (cond (is_running x && not (is_asking c.table.standard))
        (first_due c.window (count_open c.table.standard) c.table.tally.unsent) None)) running
        ∙ (ap (λ (hs : List OpenCommand). is_some (cond (not (is_asking hs))
        (first_due c.window (count_open hs) c.table.tally.unsent) None))
        standard
        ∙ (ap (λ (l : List Planned). is_some (first_due c.window 0 l)) e
        ∙ ap (λ (t : Bool). is_some (cond t (Some p) None)) (open_none c.window p.command window)))

    go : IsGoing w.client.client → IsAll w
    go (inl running) = absurd (false≢true (sym never ∙ due_now c.table.tally.unsent refl (ap is_empty (sym left) ∙ running.1) running.0))
    go (inr done) = record { done = done.0; todo = done.1 }

-- if a round does nothing, nothing is due
never_due : (answer : Job → ℕ → Outcome) (w : World) → IsRound answer false w [] → can ClientSends w ≡ false
never_due answer w round = go cut.front cut.back cut.whole cut.first
  where
    cut : Cut (AreWhile ClientSends) (Behind answer) w []
    cut = cut_of (AreWhile ClientSends) (Behind answer) w [] round

    go : (front back : List Event) → [] ≡ front ++ back → AreWhile ClientSends false w front → can ClientSends w ≡ false
    go [] back e h = h
    go (x ∷ front) back e h = absurd (cc)

-- ---- after every list of events

-- what holds where the rounds that do something are all there are
record IsFinished (answer : Job → ℕ → Outcome) (b w : World) : Type 0 where
  all : IsAll w
  measured : HasMeasured answer b w

finished : (answer : Job → ℕ → Outcome) (b : World) (rounds : List (List Event)) → IsCarried b
    → IsClosed b → 1 ≤ b.client.client.window → CanFinish b → CanMeasure answer b → AreAllBusy answer (rejoined b) rounds
    → IsFinished answer b (run_of (all_of rounds) (rejoined b))
finished answer b rounds k closed window f can_measure busy =
    record { all = all; measured = record { more = r.front.0; whole = sym r.front.1; plain = plain } }
  where
    kept : List Feature
    kept = b.client.client.table.tally.features

    goal : List MeasuredFeature
    goal = goal_of answer b

    joined : World
    joined = rejoined b

    w : World
    w = run_of (all_of rounds) joined

    j : IsRejoined b joined
    j = rejoins b k f

    left : Leaves (IsGood answer goal kept) w
    left = rounds_leave answer (IsGood answer goal kept) (keeps_good answer goal kept) rounds joined busy.busy.are
        (record { still = j.still; kept = begins_good answer b joined j closed can_measure })

    wide : 1 ≤ w.client.client.window
    wide = subst (λ (i : ℕ). 1 ≤ i) (sym (run_window (all_of rounds) joined ∙ j.window)) window

    all : IsAll w
    all = all_done answer goal kept w left.still left.kept wide (never_due answer w busy.still)

    r : ReadyAt answer goal kept w.client.client.program.features w.server.server w.client.client.table.tally
    r = left.kept.ready w.client.client.table (subst (λ (l : List Reply). Reads w.client.client.program.features w.client.client.table l
        w.client.client.table) (sym (still_down w left.still left.kept.carried)) refl)

    plain : as_measured r.front.0 ≡ plain_execution answer (contact_count b.server.server.ledger)
        (drop (length kept) b.client.client.program.features)
    plain = append_cancel_left (as_measured kept) (as_measured r.front.0) (plain_execution answer (contact_count b.server.server.ledger)
        (drop (length kept) b.client.client.program.features))
        (sym (measured_more kept r.front.0) ∙ (ap as_measured r.front.1
        ∙ (sym (append-nil (as_measured w.client.client.table.tally.features))
        ∙ (ap (λ (l : List Planned). as_measured w.client.client.table.tally.features
        ++ rest_of answer (contact_count w.server.server.ledger)
        (drop (length w.client.client.table.tally.features) w.client.client.program.features) w.client.client.table.tally.points
        (touches_in l)) (sym all.todo) ∙ r.rest))))

from_start : (answer : Job → ℕ → Outcome) (program : Meaning) (rack : List (List ℕ))
    (window : ℕ) (events : List Event) (rounds : List (List Event)) → IsProgram program → 1 ≤ window → window ≤ 16
    → CanFinish (run_of events (start program rack window))
    → CanMeasure answer (run_of events (start program rack window))
    → AreAllBusy answer (rejoined (run_of events (start program rack window))) rounds
    → IsFinished answer (run_of events (start program rack window))
    (run_of (all_of rounds) (rejoined (run_of events (start program rack window))))
from_start answer program rack window events rounds is least le f can_measure busy =
    let first : IsCarried (start program rack window) = start_carried program rack window is le in
    let b : World = run_of events (start program rack window) in
    finished answer b rounds (run_carried events (start program rack window) first)
    (run_closed events (start program rack window) first (λ off. refl))
    (subst (λ (i : ℕ). 1 ≤ i) (sym (run_window events (start program rack window))) least) f can_measure busy

pub done : (answer : Job → ℕ → Outcome) (program : Meaning) (rack : List (List ℕ))
    (window : ℕ) (events : List Event) (rounds : List (List Event)) → IsProgram program → 1 ≤ window → window ≤ 16
    → CanFinish (run_of events (start program rack window))
    → CanMeasure answer (run_of events (start program rack window))
    → AreAllBusy answer (rejoined (run_of events (start program rack window))) rounds
    → (run_of (all_of rounds) (rejoined (run_of events (start program rack window)))).client.client.state
    ≡ State.Done
done answer program rack window events rounds is least le f can_measure busy =
    (from_start answer program rack window events rounds is least le f can_measure busy).all.done

pub features : (answer : Job → ℕ → Outcome) (program : Meaning) (rack : List (List ℕ))
    (window : ℕ) (events : List Event) (rounds : List (List Event)) → IsProgram program → 1 ≤ window → window ≤ 16
    → CanFinish (run_of events (start program rack window))
    → CanMeasure answer (run_of events (start program rack window))
    → AreAllBusy answer (rejoined (run_of events (start program rack window))) rounds
    → HasMeasured answer (run_of events (start program rack window))
    (run_of (all_of rounds) (rejoined (run_of events (start program rack window))))
features answer program rack window events rounds is least le f can_measure busy =
    (from_start answer program rack window events rounds is least le f can_measure busy).measured
