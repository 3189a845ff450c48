-- An abort, and a plan that continues after a failure, keep all that holds.
use Rattle.protocol_model.proofs.Names.{[], ◌++◌, ◌-◌, ◌∙◌, ◌∷◌, ◌≡◌, ◌≤◌, ◌⊎◌, ap, append-nil, append_assoc, arith, Bool, Client, client_aborted}
use Rattle.protocol_model.proofs.Names.{client_resumed, contacts, count_open, drop, false, false≢true, Feature, inl, inr, length, Line, List}
use Rattle.protocol_model.proofs.Names.{may_abort, may_resume, Meaning as Program, next_number, None, OpenCommand, Option, plan, Planned, refl}
use Rattle.protocol_model.proofs.Names.{sends_abort, sent, Some, Start, State, subst, suc, sym, Table, Tally, true, Waiting, Wanted, zero, ℕ}
use Rattle.dme_line.specs.declared.tags.Tag.TheVariants.{Event}
use Rattle.protocol_model.proofs.plan.Blocks.{IsPlain}
use Rattle.protocol_model.specs.Typed.{World}
use Rattle.protocol_model.proofs.table.Counts.{AreFailed, all_failed}
use Rattle.protocol_model.proofs.table.Replying.{with_event, reads_with_event, with_tally, OnlyCloses, only_closes, reads_no_event}
use Rattle.protocol_model.proofs.plan.Fitting.{Know, unknown}
use Rattle.protocol_model.proofs.plan.Marks.{plan_fits, plan_sane, plan_touches, plan_no_abort}
use Rattle.protocol_model.proofs.invariant.Served.{IsProgress, progress_anew, program_has}
use Rattle.protocol_model.proofs.table.Drawing.{IsDrawn, drawn, none_drawn, event_apart}
use Rattle.protocol_model.proofs.invariant.Holding.{listed, abort_line, abort_lines, abort_held, commands_in, IsClearFirst, IsAskedLast, IsNear}
use Rattle.protocol_model.proofs.invariant.Holding.{HasEvents, HasState, IsLive, IsOff, IsAtRest, IsHere, IsAhead, IsGone, Inv, know_of}
use Rattle.protocol_model.proofs.each_event.ClientEvents.{no_aborts, none_received}

-- ---- an abort

near_aborts : (table : Table) (left : List Wanted) (up : List Line) (running : Option Line) (waiting : List Waiting)
    (error : Bool) (know : Know) (k : ℕ)
    → IsNear table left up running waiting error know → table.event ≡ []
    → IsNear (with_event (abort_held k) table) left (up ++ abort_line k ∷ []) running waiting error know
near_aborts table left up running waiting error know k h no_event =
    let aborts : h.aborts ≡ [] = no_aborts h.aborts (sym h.by.event_is ∙ no_event) in
    record {
      queued = h.queued;
      coming = h.coming;
      aborts = k ∷ [];
      by = record {
        waiting_is = h.by.waiting_is;
        up_is = ap (λ (l : List Line). l ++ abort_line k ∷ []) (h.by.up_is
            ∙ (ap (λ (ks : List ℕ). h.coming ++ abort_lines ks) aborts ∙ append-nil h.coming));
        standard_is = h.by.standard_is;
        event_is = ap (λ (hs : List OpenCommand). hs ++ abort_held k ∷ []) no_event;
        standard = h.by.standard;
        idle = h.by.idle;
        stopped = h.by.stopped;
        clear_first = h.by.clear_first;
        asked_last = h.by.asked_last;
        clean = λ e. let c = h.by.clean e in record {
          steps = c.steps;
          todo = c.todo;
          commands = c.commands;
          sane = c.sane;
          touches = c.touches;
          fits = c.fits;
        };
      };
    }

no_event_in : (w : World) (live : IsLive w) (s : State) → w.client.state ≡ s → may_abort s ≡ true → w.client.table.event ≡ []
no_event_in w live State.Running is may = subst (λ (s : State). HasEvents s w.client.abort w.client.table.event) is live.events
no_event_in w live State.Failing is may = subst (λ (s : State). HasEvents s w.client.abort w.client.table.event) is live.events
no_event_in w live State.Apart is may = absurd (false≢true may)
no_event_in w live State.Aborting is may = absurd (false≢true may)
no_event_in w live State.Halted is may = absurd (false≢true may)
no_event_in w live State.Done is may = absurd (false≢true may)
no_event_in w live State.Faulted is may = absurd (false≢true may)

-- a client on no connection is in no state in which it may abort
pub never_off : (w : World) (off : IsOff w) (s : State) → w.client.state ≡ s → may_abort s ≡ true → ⊥
never_off w off State.Apart is may = false≢true may
never_off w off State.Running is may = subst IsAtRest is off.rest
never_off w off State.Failing is may = subst IsAtRest is off.rest
never_off w off State.Aborting is may = false≢true may
never_off w off State.Halted is may = false≢true may
never_off w off State.Done is may = false≢true may
never_off w off State.Faulted is may = false≢true may

aborts_one : (w : World) (inv : Inv w) (live : IsLive w) (k : ℕ) → w.client.table.event ≡ []
    → Inv (sent w (sends_abort w.client (Some (suc k))))
aborts_one w inv live k no_event =
    let c : Client = w.client in
    let ws : List Wanted = c.program.features in
    let x : OpenCommand = abort_held k in
    record {
      program = inv.program;
      window = inv.window;
      numbers = inv.numbers;
      ledger = inv.ledger;
      idle = inv.idle;
      side = inr (record {
        on = live.on;
        table = with_event x live.table;
        left = live.left;
        reads = reads_with_event ws x w.down c.table live.table live.reads;
        counted = live.counted;
        progress = live.progress;
        pending = live.pending;
        pending_is = live.pending_is;
        tidy = live.tidy;
        distinct = live.distinct;
        within = live.within;
        state = tt;
        events = record {
          tag = Event (suc k);
          held = x;
          abort_is = refl;
          event_is = ap (λ (hs : List OpenCommand). hs ++ x ∷ []) no_event;
          same = refl;
          sort = refl;
        };
        plain = live.plain;
        place = placed (reads_no_event ws w.down c.table live.table live.reads no_event) live.place;
      });
    }
  where
    after_abort : World
    after_abort = sent w (sends_abort w.client (Some (suc k)))

    placed : live.table.event ≡ [] → IsHere w live.table live.left ⊎ (IsAhead w live.table live.left ⊎ IsGone w)
        → IsHere after_abort (with_event (abort_held k) live.table) live.left
        ⊎ (IsAhead after_abort (with_event (abort_held k) live.table) live.left ⊎ IsGone after_abort)
    placed none (inl here) = inl (record {
      on = here.on;
      same = here.same;
      near = near_aborts live.table live.left w.up w.server.running w.server.waiting w.server.error (know_of w.server) k
          here.near none;
    })
    placed none (inr (inl ahead)) = inr (inl (record {
      below = ahead.below;
      near = near_aborts live.table live.left w.up None [] false unknown k ahead.near none;
    }))
    placed none (inr (inr gone)) = inr (inr (record { off = gone.off; same = gone.same }))

none_at_all : (n : ℕ) (hs : List OpenCommand) → hs ≡ [] → suc n ≤ length hs → ⊥
none_at_all n hs e le = let short : suc n ≤ 0 = subst (λ (l : List OpenCommand). suc n ≤ length l) e le in absurd (go short)
  where
    go : suc n ≤ 0 → ⊥
    go h = omega arith

-- a client that may abort sends an abort under a new event tag, and all that holds is kept
pub abort_event : (w : World) → Inv w → may_abort w.client.state ≡ true → Inv (sent w (client_aborted w.client))
abort_event w inv can = go inv.side
  where
    numbered : (live : IsLive w) (number : Option ℕ) → next_number Event w.client.table.event w.client.event_drawn ≡ number
        → w.client.table.event ≡ [] → Inv (sent w (sends_abort w.client number))
    numbered live None e none = absurd (none_at_all 9998 w.client.table.event none
        (none_drawn Event w.client.table.event w.client.event_drawn (9999 - w.client.event_drawn) 9999 event_apart e))
    numbered live (Some zero) e none =
        let number : IsDrawn Event w.client.table.event zero = drawn Event w.client.table.event w.client.event_drawn
        (9999 - w.client.event_drawn) 9999 zero e in
        absurd (not_one number.from)
      where
        not_one : 1 ≤ zero → ⊥
        not_one h = omega arith
    numbered live (Some (suc k)) e none = aborts_one w inv live k none

    go : IsOff w ⊎ IsLive w → Inv (sent w (client_aborted w.client))
    go (inl off) = absurd (never_off w off w.client.state refl can)
    go (inr live) = numbered live (next_number Event w.client.table.event w.client.event_drawn) refl
        (no_event_in w live w.client.state refl can)

-- ---- a plan continues

halted_by : (c : Client) (s : State) → may_resume c s ≡ true → s ≡ State.Halted
halted_by c State.Apart e = absurd (false≢true e)
halted_by c State.Running e = absurd (false≢true e)
halted_by c State.Failing e = absurd (false≢true e)
halted_by c State.Aborting e = absurd (false≢true e)
halted_by c State.Halted e = refl
halted_by c State.Done e = absurd (false≢true e)
halted_by c State.Faulted e = absurd (false≢true e)

-- the tally of a plan that begins
abbrev begun : List Planned → Tally → Tally
begun steps y = record y { failed = false; todo = steps; unsent = steps; points = []; completed = 0 }

near_resumes : (p : Program) (fs : List Feature) (table : Table) (left : List Wanted) (up : List Line)
    (running : Option Line) (waiting : List Waiting) (error : Bool) (know : Know) (y : Tally)
    → IsPlain p → IsNear table left up running waiting error know → AreFailed table.standard
    → IsNear (with_tally (begun (plan p (length fs) Start.SameConnection) y) table)
    (drop (length fs) p.features) up running waiting error know
near_resumes p fs table left up running waiting error know y program h failed =
    let steps : List Planned = plan p (length fs) Start.SameConnection in
    let none = none_received (listed running ++ h.queued) h.coming (subst AreFailed h.by.standard_is failed) in
    let lines : listed running ++ (h.queued ++ h.coming) ≡ [] = sym (append_assoc (listed running) h.queued h.coming)
    ∙ (ap (λ (l : List Line). l ++ h.coming) none.0 ∙ none.1) in
    record {
      queued = h.queued;
      coming = h.coming;
      aborts = h.aborts;
      by = record {
        waiting_is = h.by.waiting_is;
        up_is = h.by.up_is;
        standard_is = h.by.standard_is;
        event_is = h.by.event_is;
        standard = h.by.standard;
        idle = h.by.idle;
        stopped = λ e. absurd (false≢true e);
        clear_first = subst (IsClearFirst false) (sym lines) tt;
        asked_last = subst IsAskedLast (sym lines) tt;
        clean = λ e. record {
          steps = [];
          todo = refl;
          commands = ap commands_in (sym lines);
          sane = plan_sane p (length fs) Start.SameConnection program;
          touches = plan_touches p (length fs) Start.SameConnection program;
          fits = λ f. plan_fits p (length fs) Start.SameConnection know program;
        };
      };
    }

resumes : (w : World) (inv : Inv w) (live : IsLive w) → w.client.state ≡ State.Halted → Inv (record w { client = client_resumed w.client })
resumes w inv live halted =
    let c : Client = w.client in
    let ws : List Wanted = c.program.features in
    let fs : List Feature = c.table.tally.features in
    let steps : List Planned = plan c.program (length fs) Start.SameConnection in
    let y : Tally = begun steps c.table.tally in
    let none_open : count_open c.table.standard ≡ 0 = subst (λ (s : State). HasState s c.table) halted live.state in
    let closes : OnlyCloses ws c.table live.table w.down = only_closes ws w.down c.table live.table live.reads
    (all_failed c.table.standard none_open) in
    let events : c.table.event ≡ [] = subst (λ (s : State). HasEvents s c.abort c.table.event) halted live.events in
    let anew : IsProgress ws c.last live.table.tally.features [] (contacts w.server.ledger) (drop (length live.table.tally.features) ws) =
    progress_anew ws c.last c.last live.table.tally.features live.table.tally.points (contacts w.server.ledger) live.left
    (program_has c.program inv.program) live.progress in
    record {
      program = inv.program;
      window = inv.window;
      numbers = inv.numbers;
      ledger = inv.ledger;
      idle = inv.idle;
      side = inr (record {
        on = live.on;
        table = with_tally y live.table;
        left = drop (length fs) ws;
        reads = closes.anyhow y;
        counted = ap (λ (z : Tally). z.counted) (sym closes.same) ∙ live.counted;
        progress = subst (λ (gs : List Feature). IsProgress ws c.last gs [] (contacts w.server.ledger) (drop (length gs) ws))
            (ap (λ (z : Tally). z.features) closes.same) anew;
        pending = live.pending;
        pending_is = live.pending_is;
        tidy = live.tidy;
        distinct = live.distinct;
        within = live.within;
        state = refl;
        events = events;
        plain = plan_no_abort c.program (length fs) Start.SameConnection;
        place = placed y closes.left live.place;
      });
    }
  where
    after_resume : World
    after_resume = record w { client = client_resumed w.client }

    fs_now : List Feature
    fs_now = w.client.table.tally.features

    placed : (y : Tally) → AreFailed live.table.standard → IsHere w live.table live.left ⊎ (IsAhead w live.table live.left ⊎ IsGone w)
        → IsHere after_resume (with_tally (begun (plan w.client.program (length w.client.table.tally.features) Start.SameConnection) y)
        live.table) (drop (length w.client.table.tally.features) w.client.program.features)
        ⊎ (IsAhead after_resume (with_tally (begun (plan w.client.program (length w.client.table.tally.features) Start.SameConnection) y)
        live.table) (drop (length w.client.table.tally.features) w.client.program.features) ⊎ IsGone after_resume)
    placed y failed (inl here) = inl (record {
      on = here.on;
      same = here.same;
      near = near_resumes w.client.program w.client.table.tally.features live.table live.left w.up w.server.running
          w.server.waiting w.server.error (know_of w.server) y inv.program here.near failed;
    })
    placed y failed (inr (inl ahead)) = inr (inl (record {
      below = ahead.below;
      near = near_resumes w.client.program w.client.table.tally.features live.table live.left w.up None [] false unknown y
          inv.program ahead.near failed;
    }))
    placed y failed (inr (inr gone)) = inr (inr (record { off = gone.off; same = gone.same }))

-- a client that may resume begins its plan again on the same connection, and all that holds is kept
pub resume_event : (w : World) → Inv w → may_resume w.client w.client.state ≡ true → Inv (record w { client = client_resumed w.client })
resume_event w inv can = go inv.side
  where
    halted : w.client.state ≡ State.Halted
    halted = halted_by w.client w.client.state can

    go : IsOff w ⊎ IsLive w → Inv (record w { client = client_resumed w.client })
    go (inl off) = absurd (subst IsAtRest halted off.rest)
    go (inr live) = resumes w inv live halted
