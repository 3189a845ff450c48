-- The events of the client, but for what it reads, keep all that holds.
use Rattle.protocol_model.proofs.Names.{[], ◌++◌, ◌<◌, ◌∙◌, ◌∷◌, ◌≡◌, ◌≤◌, ◌⊎◌, acts_on, ap, append-nil, append_assoc, arith, Bool, Client}
use Rattle.protocol_model.proofs.Names.{client_connected, client_left, client_restarted, Command, cond, contacts, count_open, drop, false, false≢true}
use Rattle.protocol_model.proofs.Names.{Feature, held_now, inl, inr, is_abort, is_asking, is_clearing, is_failed, is_held, kind_of, left_state}
use Rattle.protocol_model.proofs.Names.{length, Line, List, None, Ok, OpenCommand, Option, plan, Planned, refl, Stage, Start, State, Std, subst, suc}
use Rattle.protocol_model.proofs.Names.{sym, Table, Tag, tag_is, true, Waiting, Wanted, ℕ}
use Rattle.protocol_model.specs.Typed.{connected, World}
use Rattle.protocol_model.proofs.table.Basics.{if_cases, if_false}
use Rattle.protocol_model.proofs.table.Walks.{AreDistinct}
use Rattle.protocol_model.proofs.table.Counts.{AreFailed, failed_tags}
use Rattle.protocol_model.proofs.table.Replying.{IsFront, Grows, reads_grows, with_standard}
use Rattle.protocol_model.proofs.plan.Fitting.{Know, unknown}
use Rattle.protocol_model.proofs.plan.Marks.{plan_fits, plan_sane, plan_touches, plan_no_abort}
use Rattle.protocol_model.proofs.invariant.Served.{acts_none, Served, served_front, served_take, progress_served, progress_new, program_has}
use Rattle.protocol_model.proofs.invariant.Holding.{listed, sent_now, all_received, all_sent, abort_lines, abort_helds, commands_in}
use Rattle.protocol_model.proofs.invariant.Holding.{AreStandard, IsClearFirst, IsAskedLast, IsNear, HasState, IsLive, IsOff, IsAtRest, Inv}
use Rattle.protocol_model.proofs.table.Asking.{with_unsent}
use Rattle.protocol_model.proofs.invariant.LineFacts.{asked_more, tag_is_false, standard_join, no_clears_join, sent_more, commands_more, steps_more}

-- ---- what always follows

-- the features that the client holds are served
pub served_now : (w : World) → Inv w → Served w.client.program.features w.client.table.tally.features (contacts w.server.ledger)
served_now w inv = go inv.side
  where
    go : IsOff w ⊎ IsLive w → Served w.client.program.features w.client.table.tally.features (contacts w.server.ledger)
    go (inl off) = off.served
    go (inr live) =
        let grows : Grows w.client.table.tally live.table.tally =
        reads_grows w.client.program.features w.down w.client.table live.table live.reads in
        served_front w.client.program.features w.client.table.tally.features grows.features.0 (contacts w.server.ledger)
        (subst (λ (fs : List Feature). Served w.client.program.features fs (contacts w.server.ledger)) (sym grows.features.1)
        (progress_served w.client.program.features w.client.last live.table.tally.features live.table.tally.points
        (contacts w.server.ledger) live.left live.progress))

-- what it has counted is reported
pub told_now : (w : World) → Inv w → IsFront w.client.table.tally.counted (acts_on w.client.last w.server.ledger)
told_now w inv = go inv.side
  where
    go : IsOff w ⊎ IsLive w → IsFront w.client.table.tally.counted (acts_on w.client.last w.server.ledger)
    go (inl off) = off.told
    go (inr live) =
        let grows : Grows w.client.table.tally live.table.tally =
        reads_grows w.client.program.features w.down w.client.table live.table live.reads in
        (grows.counted.0, grows.counted.1 ∙ live.counted)

-- it is not Faulted
never_at_rest : (s : State) → IsAtRest s → s ≡ State.Faulted → ⊥
never_at_rest s h e = subst IsAtRest e h

-- if all holds, the client is not Faulted
pub never_faulted : (w : World) → Inv w → w.client.state ≡ State.Faulted → ⊥
never_faulted w inv e = go inv.side
  where
    go : IsOff w ⊎ IsLive w → ⊥
    go (inl off) = subst IsAtRest e off.rest
    go (inr live) = subst (λ (s : State). HasState s w.client.table) e live.state

-- ---- a new connection

-- the client makes its next connection, on which nothing is on its way, and all that holds is kept
pub connect_event : (w : World) → Inv w → Inv (connected w)
connect_event w inv =
    let c : Client = w.client in
    let n : ℕ = suc c.last in
    let fs : List Feature = c.table.tally.features in
    let steps : List Planned = plan c.program (length fs) Start.NewConnection in
    let served : Served c.program.features fs (contacts w.server.ledger) = served_now w inv in
    let below : w.server.last < n = omega (arith, inv.numbers) in
    let table : Table = (client_connected n c).table in
    record {
      program = inv.program;
      window = inv.window;
      numbers = omega (arith, inv.numbers);
      ledger = inv.ledger;
      idle = inv.idle;
      side = inr (record {
        on = refl;
        table = table;
        left = drop (length fs) c.program.features;
        reads = refl;
        counted = sym (acts_none w.server.last n w.server.ledger inv.ledger below);
        progress = progress_new c.program.features n fs (contacts w.server.ledger) served (program_has c.program inv.program);
        pending = None;
        pending_is = refl;
        tidy = tt;
        distinct = tt;
        within = omega arith;
        state = refl;
        events = refl;
        plain = plan_no_abort c.program (length fs) Start.NewConnection;
        place = inr (inl (record {
          below = below;
          near = record {
            queued = [];
            coming = [];
            aborts = [];
            by = record {
              waiting_is = refl;
              up_is = refl;
              standard_is = refl;
              event_is = refl;
              standard = tt;
              idle = λ e. (refl, refl);
              stopped = λ e. absurd (false≢true e);
              clear_first = tt;
              asked_last = tt;
              clean = λ e. record {
                steps = [];
                todo = refl;
                commands = refl;
                sane = plan_sane c.program (length fs) Start.NewConnection inv.program;
                touches = plan_touches c.program (length fs) Start.NewConnection inv.program;
                fits = λ f. plan_fits c.program (length fs) Start.NewConnection unknown inv.program;
              };
            };
          };
        }));
      });
    }

-- ---- leaving, and a restart

-- the client leaves its connection, and all that holds is kept
pub client_left_event : (w : World) → Inv w → Inv (record w { client = client_left w.client })
client_left_event w inv = record {
  program = inv.program;
  window = inv.window;
  numbers = inv.numbers;
  ledger = inv.ledger;
  idle = inv.idle;
  side = inl (record { off = refl; rest = go w.client.state; served = served_now w inv; told = told_now w inv });
}
  where
    go : (s : State) → IsAtRest (left_state s)
    go State.Apart = tt
    go State.Running = tt
    go State.Failing = tt
    go State.Aborting = tt
    go State.Halted = tt
    go State.Done = tt
    go State.Faulted = tt

-- the client restarts with its first k features, and all that holds is kept
pub client_restart_event : (w : World) (k : ℕ) → Inv w → Inv (record w { client = client_restarted k w.client })
client_restart_event w k inv = record {
  program = inv.program;
  window = inv.window;
  numbers = inv.numbers;
  ledger = inv.ledger;
  idle = inv.idle;
  side = inl (record {
    off = refl;
    rest = tt;
    served = served_take k w.client.program.features w.client.table.tally.features (contacts w.server.ledger) (served_now w inv);
    told = (acts_on w.client.last w.server.ledger, refl);
  });
}

-- ---- a command is sent

-- a further command that has not failed changes nothing of the tags of those that have
pub failed_tags_more : (hs : List OpenCommand) (x : OpenCommand) → is_failed x.stage ≡ false → failed_tags (hs ++ x ∷ []) ≡ failed_tags hs
failed_tags_more [] x e = if_false {A = List Tag} (is_failed x.stage) (x.tag ∷ []) [] e
failed_tags_more (h ∷ hs) x e = ap (λ (ts : List Tag). cond (is_failed h.stage) (h.tag ∷ ts) ts) (failed_tags_more hs x e)

-- a further command adds at most one to the count of the open ones
pub count_more : (hs : List OpenCommand) (x : OpenCommand) → count_open (hs ++ x ∷ []) ≤ suc (count_open hs)
count_more [] x = go (is_failed x.stage)
  where
    go : (b : Bool) → cond b 0 1 ≤ 1
    go true = omega arith
    go false = omega arith
count_more (h ∷ hs) x = go (is_failed h.stage) (count_more hs x)
  where
    go : (b : Bool) → count_open (hs ++ x ∷ []) ≤ suc (count_open hs)
        → cond b (count_open (hs ++ x ∷ [])) (suc (count_open (hs ++ x ∷ []))) ≤ suc (cond b (count_open hs) (suc (count_open hs)))
    go true le = le
    go false le = omega arith

one_more_tag : (u : Tag) (hs : List OpenCommand) (x : OpenCommand) → is_held u hs ≡ false → tag_is x.tag u ≡ false
    → is_held u (hs ++ x ∷ []) ≡ false
one_more_tag u [] x e apart = if_false {A = Bool} (tag_is x.tag u) true false apart
one_more_tag u (h ∷ hs) x e apart = if_cases {A = Bool} (tag_is h.tag u) true (is_held u hs) false (is_held u (h ∷ (hs ++ x ∷ [])) ≡ false)
    e
    (λ same no_way. absurd (false≢true (sym no_way)))
    (λ other rest. if_false {A = Bool} (tag_is h.tag u) true (is_held u (hs ++ x ∷ [])) other ∙ one_more_tag u hs x rest apart)

-- if each tag is held once, it is so with a further command whose tag was not held
pub distinct_more : (hs : List OpenCommand) (x : OpenCommand) → AreDistinct hs → is_held x.tag hs ≡ false → AreDistinct (hs ++ x ∷ [])
distinct_more [] x d free = (refl, tt)
distinct_more (h ∷ hs) x d free = if_cases {A = Bool} (tag_is h.tag x.tag) true (is_held x.tag hs) false (AreDistinct (h ∷ (hs ++ x ∷ [])))
    free
    (λ same no_way. absurd (false≢true (sym no_way)))
    (λ other rest. (one_more_tag h.tag hs x d.0 (tag_is_false h.tag x.tag other), distinct_more hs x d.1 rest))

-- if the list of open aborts is empty, so is the list of their numbers
pub no_aborts : (ks : List ℕ) → abort_helds ks ≡ [] → ks ≡ []
no_aborts [] e = refl
no_aborts (k ∷ ks) e = absurd (cc)

-- a further line after a list of lines
pub clear_more : (failed : Bool) (ls : List Line) (l : Line) → IsClearFirst failed ls
    → (is_clearing l.command ≡ true → (ls ≡ []) × (failed ≡ false)) → IsClearFirst failed (ls ++ l ∷ [])
clear_more failed [] l h only = ((λ e. (only e).1), tt)
clear_more failed (x ∷ xs) l h only = (h.0, no_clears_join xs (l ∷ []) h.1 (go (is_clearing l.command) refl, tt))
  where
    go : (b : Bool) → is_clearing l.command ≡ b → is_clearing l.command ≡ false
    go false e = e
    go true e = let none : x ∷ xs ≡ [] = (only e).0 in absurd (cc)

-- if all have failed, nothing is received or sent
pub none_received : (xs ys : List Line) → AreFailed (all_received xs ++ all_sent ys) → (xs ≡ []) × (ys ≡ [])
none_received [] [] h = (refl, refl)
none_received [] (y ∷ ys) h = absurd (go h.0)
  where
    go : ◌≡◌ {A = Stage} Stage.Sent Stage.Failed → ⊥
    go e = cc
none_received (x ∷ xs) ys h = absurd (go h.0)
  where
    go : ◌≡◌ {A = Stage} Stage.Received Stage.Failed → ⊥
    go e = cc

-- the next command of the plan is sent while no abort is open, and the table that is left still fits the server
pub near_sends : (table : Table) (p : Planned) (ps : List Planned) (left : List Wanted) (up : List Line) (running : Option Line)
    (waiting : List Waiting) (error : Bool) (know : Know) (n : ℕ)
    → IsNear table left up running waiting error know → table.tally.unsent ≡ p ∷ ps → is_asking table.standard ≡ false
    → table.event ≡ [] → is_abort (Ok p.command) ≡ false
    → (is_clearing p.command ≡ true → AreFailed table.standard × (table.tally.failed ≡ false))
    → IsNear (with_standard (held_now (Std n) (kind_of p.command)) (with_unsent ps table)) left (up
    ++ record { tag = Std n; command = p.command } ∷ []) running waiting error know
near_sends table p ps left up running waiting error know n h unsent quiet no_event plain clearing =
    let line : Line = record { tag = Std n; command = p.command } in
    let aborts : h.aborts ≡ [] = no_aborts h.aborts (sym h.by.event_is ∙ no_event) in
    let busy : List Line = listed running in
    let lines : List Line = busy ++ (h.queued ++ h.coming) in
    let longer : lines ++ line ∷ [] ≡ busy ++ (h.queued ++ (h.coming ++ line ∷ [])) = append_assoc busy (h.queued ++ h.coming) (line ∷ [])
    ∙ ap (λ (l : List Line). busy ++ l) (append_assoc h.queued h.coming (line ∷ [])) in
    record {
      queued = h.queued;
      coming = h.coming ++ line ∷ [];
      aborts = [];
      by = record {
        waiting_is = h.by.waiting_is;
        up_is = ap (λ (l : List Line). l ++ line ∷ []) (h.by.up_is
            ∙ (ap (λ (ks : List ℕ). h.coming ++ abort_lines ks) aborts ∙ append-nil h.coming)) ∙ sym (append-nil (h.coming ++ line ∷ []));
        standard_is = ap (λ (hs : List OpenCommand). hs ++ sent_now line ∷ []) h.by.standard_is
            ∙ (append_assoc (all_received (busy ++ h.queued)) (all_sent h.coming) (sent_now line ∷ [])
            ∙ ap (λ (hs : List OpenCommand). all_received (busy ++ h.queued) ++ hs) (sym (sent_more h.coming (line ∷ []))));
        event_is = no_event;
        standard = subst AreStandard longer (standard_join lines (line ∷ []) h.by.standard (refl, plain, tt));
        idle = h.by.idle;
        stopped = h.by.stopped;
        clear_first = subst (IsClearFirst table.tally.failed) longer (clear_more table.tally.failed lines line h.by.clear_first (λ e.
            let all : AreFailed table.standard × (table.tally.failed ≡ false) = clearing e in
            let none = none_received (busy ++ h.queued) h.coming (subst AreFailed h.by.standard_is all.0) in
            (sym (append_assoc busy h.queued h.coming) ∙ (ap (λ (l : List Line). l ++ h.coming) none.0 ∙ none.1), all.1)));
        asked_last = subst IsAskedLast (ap (λ (l : List Line). l ++ line ∷ []) (append_assoc busy h.queued h.coming) ∙ longer)
            (asked_more (busy ++ h.queued) h.coming line (ap is_asking (sym h.by.standard_is) ∙ quiet));
        clean = λ e.
            let c = h.by.clean e in
            record {
              steps = c.steps ++ p ∷ [];
              todo = c.todo ∙ (ap (λ (l : List Planned). c.steps ++ l) unsent ∙ sym (append_assoc c.steps (p ∷ []) ps));
              commands = steps_more c.steps (p ∷ []) ∙ (ap (λ (l : List Command). l ++ p.command ∷ []) c.commands
                  ∙ (sym (commands_more lines (line ∷ [])) ∙ ap commands_in longer));
              sane = c.sane;
              touches = c.touches;
              fits = c.fits;
            };
      };
    }
