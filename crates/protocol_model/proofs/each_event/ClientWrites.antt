-- What the client writes keeps all that holds: commands, aborts, and a plan that continues.
use Rattle.protocol_model.proofs.Names.{[], ◌&&◌, ◌-◌, ◌<◌, ◌||◌, ◌∙◌, ◌∷◌, ◌≡◌, ◌≤◌, ◌⊎◌, and_parts, ap, arith, Bool, Client, client_sent, cond}
use Rattle.protocol_model.proofs.Names.{count_open, due, eqb, eqb-true, false, false≢true, first_due, held_now, inl, inr, is_abort, is_asking}
use Rattle.protocol_model.proofs.Names.{is_clearing, is_held, is_running, is_some, kind_of, le_trans, length, List, ltb-true, may_go, next_number}
use Rattle.protocol_model.proofs.Names.{None, not, Ok, OpenCommand, Option, Planned, refl, sends_next, sent, Some, State, Std, subst, sym, Table, Tag}
use Rattle.protocol_model.proofs.Names.{Tally, true, Wanted, ℕ}
use Rattle.protocol_model.specs.Typed.{World}
use Rattle.protocol_model.proofs.table.Counts.{AreFailed, all_failed, failed_tags}
use Rattle.protocol_model.proofs.table.Replying.{with_standard, reads_with_standard, OnlyCloses, only_closes, reads_no_event}
use Rattle.protocol_model.proofs.table.Asking.{with_unsent, AreUnasked, reads_unasked}
use Rattle.protocol_model.proofs.plan.Fitting.{unknown}
use Rattle.protocol_model.proofs.plan.Marks.{HasNoAbort}
use Rattle.protocol_model.proofs.table.Drawing.{IsDrawn, drawn, none_drawn, standard_apart, held_length}
use Rattle.protocol_model.proofs.invariant.Holding.{HasEvents, HasState, tags_of, IsLive, IsOff, IsAtRest, IsHere, IsAhead, IsGone, Inv, know_of}
use Rattle.protocol_model.proofs.each_event.ClientEvents.{failed_tags_more, count_more, distinct_more, near_sends}

-- ---- a command is sent

-- the client is Running, and the first command that it has not sent may go with that many open
pub record IsDue (c : Client) : Type 0 where
  pub running : c.state ≡ State.Running
  pub planned : Planned
  pub others : List Planned
  pub unsent : c.table.tally.unsent ≡ planned ∷ others
  pub quiet : is_asking c.table.standard ≡ false
  pub go : may_go c.window (count_open c.table.standard) planned.command ≡ true

is_running-true : (s : State) → is_running s ≡ true → s ≡ State.Running
is_running-true State.Apart e = absurd (false≢true e)
is_running-true State.Running e = refl
is_running-true State.Failing e = absurd (false≢true e)
is_running-true State.Aborting e = absurd (false≢true e)
is_running-true State.Halted e = absurd (false≢true e)
is_running-true State.Done e = absurd (false≢true e)
is_running-true State.Faulted e = absurd (false≢true e)

first_by : (b : Bool) (p : Planned) → is_some (cond b (Some p) None) ≡ true → b ≡ true
first_by true p e = refl
first_by false p e = absurd (false≢true e)

due_by : (c : Client) (ps : List Planned) → c.table.tally.unsent ≡ ps → c.state ≡ State.Running → is_asking c.table.standard ≡ false
    → is_some (first_due c.window (count_open c.table.standard) ps) ≡ true → IsDue c
due_by c [] e r quiet is = absurd (false≢true is)
due_by c (p ∷ ps) e r quiet is = record { running = r; planned = p; others = ps; unsent = e; quiet = quiet; go = first_by _ p is }

not_so : (b : Bool) → not b ≡ true → b ≡ false
not_so false e = refl
not_so true e = absurd (false≢true e)

-- if a command is due, it is the first one that a client in Running has not sent
pub due_is : (c : Client) → is_some (due c) ≡ true → IsDue c
due_is c is = go (is_running c.state && not (is_asking c.table.standard)) refl is
  where
    go : (b : Bool) → (is_running c.state && not (is_asking c.table.standard)) ≡ b
        → is_some (cond b (first_due c.window (count_open c.table.standard) c.table.tally.unsent) None) ≡ true → IsDue c
    go true r e = let parts = and_parts _ _ r in due_by c c.table.tally.unsent refl (is_running-true c.state parts.0)
        (not_so _ parts.1) e
    go false r e = absurd (false≢true e)

-- a command is sent under a tag that is not held
sends_one : (w : World) (inv : Inv w) (live : IsLive w) (d : IsDue w.client) (n : ℕ) → is_held (Std n) w.client.table.standard ≡ false
    → Inv (sent w (sends_next w.client (d.planned ∷ d.others) (Some n)))
sends_one w inv live d n free =
    let c : Client = w.client in
    let ws : List Wanted = c.program.features in
    let x : OpenCommand = held_now (Std n) (kind_of d.planned.command) in
    let next : Table = with_standard x (with_unsent d.others live.table) in
    let unasked : AreUnasked ws c.table live.table w.down = reads_unasked ws w.down c.table live.table live.reads d.quiet in
    let failed : c.table.tally.failed ≡ false = subst (λ (s : State). HasState s c.table) d.running live.state in
    let no_event : c.table.event ≡ [] = subst (λ (s : State). HasEvents s c.abort c.table.event) d.running live.events in
    let none : live.table.event ≡ [] = reads_no_event ws w.down c.table live.table live.reads no_event in
    let tests = and_parts _ _ d.go in
    let room : count_open c.table.standard < c.window = ltb-true _ _ tests.0 in
    let plain : HasNoAbort (d.planned ∷ d.others) = subst HasNoAbort d.unsent live.plain in
    record {
      program = inv.program;
      window = inv.window;
      numbers = inv.numbers;
      ledger = inv.ledger;
      idle = inv.idle;
      side = inr (record {
        on = live.on;
        table = next;
        left = live.left;
        reads = reads_with_standard ws x w.down (with_unsent d.others c.table) (with_unsent d.others live.table) (unasked.anyhow d.others);
        counted = live.counted;
        progress = live.progress;
        pending = live.pending;
        pending_is = failed_tags_more c.table.standard x refl ∙ live.pending_is;
        tidy = live.tidy;
        distinct = distinct_more c.table.standard x live.distinct free;
        within = le_trans (count_more c.table.standard x) room;
        state = subst (λ (s : State). HasState s (with_standard x (with_unsent d.others c.table))) (sym d.running) failed;
        events = live.events;
        plain = plain.1;
        place = placed failed none plain.0 (clearing tests.1) (unasked.unsent ∙ d.unsent) unasked.asking live.place;
      });
    }
  where
    x : OpenCommand
    x = held_now (Std n) (kind_of d.planned.command)

    after_sending : World
    after_sending = sent w (sends_next w.client (d.planned ∷ d.others) (Some n))

    clearing : (not (is_clearing d.planned.command) || eqb (count_open w.client.table.standard) 0) ≡ true
        → is_clearing d.planned.command ≡ true → count_open w.client.table.standard ≡ 0
    clearing may is =
        let zero_now : eqb (count_open w.client.table.standard) 0 ≡ true =
        ap (λ (b : Bool). not b || eqb (count_open w.client.table.standard) 0) (sym is) ∙ may in
        eqb-true _ 0 zero_now

    cleared : w.client.table.tally.failed ≡ false → count_open w.client.table.standard ≡ 0 → AreFailed live.table.standard
        × (live.table.tally.failed ≡ false)
    cleared failed none_open =
        let closes : OnlyCloses w.client.program.features w.client.table live.table w.down =
        only_closes w.client.program.features w.down w.client.table live.table live.reads (all_failed w.client.table.standard none_open)
        in
        (closes.left, ap (λ (y : Tally). y.failed) closes.same ∙ failed)

    placed : w.client.table.tally.failed ≡ false → live.table.event ≡ [] → is_abort (Ok d.planned.command) ≡ false
        → (is_clearing d.planned.command ≡ true → count_open w.client.table.standard ≡ 0)
        → live.table.tally.unsent ≡ d.planned ∷ d.others → is_asking live.table.standard ≡ false
        → IsHere w live.table live.left ⊎ (IsAhead w live.table live.left ⊎ IsGone w)
        → IsHere after_sending (with_standard x (with_unsent d.others live.table)) live.left
        ⊎ (IsAhead after_sending (with_standard x (with_unsent d.others live.table)) live.left ⊎ IsGone after_sending)
    placed failed none plain zero_at unsent quiet (inl here) = inl (record {
      on = here.on;
      same = here.same;
      near = near_sends live.table d.planned d.others live.left w.up w.server.running w.server.waiting w.server.error (know_of w.server) n
          here.near unsent quiet none plain (λ e. cleared failed (zero_at e));
    })
    placed failed none plain zero_at unsent quiet (inr (inl ahead)) = inr (inl (record {
      below = ahead.below;
      near = near_sends live.table d.planned d.others live.left w.up None [] false unknown n ahead.near unsent quiet none plain
          (λ e. cleared failed (zero_at e));
    }))
    placed failed none plain zero_at unsent quiet (inr (inr gone)) = inr (inr (record { off = gone.off; same = gone.same }))

few_tags : (p : Option Tag) → length (tags_of p) ≤ 1
few_tags None = omega arith
few_tags (Some t) = omega arith

held_few : (w : World) → Inv w → (live : IsLive w) → length w.client.table.standard ≤ 17
held_few w inv live =
    let tags : length (failed_tags w.client.table.standard) ≤ 1 =
    subst (λ (ts : List Tag). length ts ≤ 1) (sym live.pending_is) (few_tags live.pending) in
    let open_now : count_open w.client.table.standard ≤ 16 = le_trans live.within inv.window in
    omega (arith, held_length w.client.table.standard)

too_many : (n : ℕ) → 9999 ≤ n → n ≤ 17 → ⊥
too_many n a b = omega arith

-- the command that is due is sent under a new standard tag, and all that holds is kept
pub sends_event : (w : World) → Inv w → is_some (due w.client) ≡ true → Inv (sent w (client_sent w.client))
sends_event w inv can = go inv.side
  where
    d : IsDue w.client
    d = due_is w.client can

    numbered : (live : IsLive w) (number : Option ℕ) → next_number Std w.client.table.standard w.client.drawn ≡ number
        → Inv (sent w (sends_next w.client (d.planned ∷ d.others) number))
    numbered live None e = absurd (too_many _ (none_drawn Std w.client.table.standard w.client.drawn (9999 - w.client.drawn) 9999
        standard_apart e) (held_few w inv live))
    numbered live (Some n) e = let number : IsDrawn Std w.client.table.standard n =
        drawn Std w.client.table.standard w.client.drawn (9999 - w.client.drawn) 9999 n e in sends_one w inv live d n number.free

    go : IsOff w ⊎ IsLive w → Inv (sent w (client_sent w.client))
    go (inl off) = absurd (subst IsAtRest d.running off.rest)
    go (inr live) =
        subst (λ (ps : List Planned). Inv (sent w (sends_next w.client ps (next_number Std w.client.table.standard w.client.drawn))))
        (sym d.unsent)
        (numbered live (next_number Std w.client.table.standard w.client.drawn) refl)
