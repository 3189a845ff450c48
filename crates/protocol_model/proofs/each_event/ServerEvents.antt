-- The events of the server keep all that holds.
use Rattle.protocol_model.proofs.Names.{[], ◌&&◌, ◌++◌, ◌<◌, ◌∙◌, ◌∷◌, ◌≡◌, ◌≤◌, ◌⊎◌, Act, and_parts, Answer, answered, ap, arith, Bool, count_open}
use Rattle.protocol_model.proofs.Names.{eqb, eqb-false, eqb-true, false, false≢true, inl, inr, is_empty, is_none, le_trans, leb-true, Line, List}
use Rattle.protocol_model.proofs.Names.{ltb-true, may_end, nat_le, nat_lt, None, not, Ok, Option, Outcome, Reading, refl, server_accepted}
use Rattle.protocol_model.proofs.Names.{server_left, server_machined, server_read, server_reads, server_restarted, server_turned, Some, subst, sym}
use Rattle.protocol_model.proofs.Names.{Table, true, Waiting, Wanted, ℕ}
use Rattle.protocol_model.specs.Typed.{World}
use Rattle.protocol_model.proofs.table.Replying.{reads_counts, reads_distinct}
use Rattle.protocol_model.proofs.plan.Fitting.{Know, unknown, KnowsMore, more_than_nothing, fits_more}
use Rattle.protocol_model.proofs.invariant.Served.{up_to_above}
use Rattle.protocol_model.proofs.invariant.Moves.{Moves, read_moves, turned_moves, machined_moves}
use Rattle.protocol_model.proofs.each_event.Answers.{IsAnswered, off_answers, old_answers, here_answers}
use Rattle.protocol_model.proofs.each_event.ReadEvent.{reads_standard, reads_abort}
use Rattle.protocol_model.proofs.each_event.WorkEvent.{turned_here, machined_here}
use Rattle.protocol_model.proofs.invariant.Holding.{abort_line, abort_lines, IsNearBy, IsNear, IsLive, IsOff, IsHere, IsAhead, IsGone}
use Rattle.protocol_model.proofs.invariant.Holding.{IsIdle, Inv, know_of}

-- ---- a line is read

-- no more commands are open after what is read than the window allows
pub few_open : (w : World) → Inv w → (live : IsLive w) → count_open live.table.standard ≤ 16
few_open w inv live = le_trans (reads_counts w.client.program.features w.down w.client.table live.table live.reads)
    (le_trans live.within inv.window)

abbrev first_line : List Line → Line → Line
first_line [] d = d
first_line (l ∷ ls) d = l

abbrev other_lines : List Line → List Line
other_lines [] = []
other_lines (l ∷ ls) = ls

-- an answer to the first line that is unread
read_here : (w : World) (table : Table) (left : List Wanted) (x y : Line) (up rest : List Line) → y ∷ rest ≡ x ∷ up
    → IsAnswered w table rest (server_read w.server (Ok y)) → IsAnswered w table up (server_read w.server (Ok x))
read_here w table left x y up rest e h =
    let same : y ≡ x = ap (λ (l : List Line). first_line l y) e in
    let others : rest ≡ up = ap other_lines e in
    subst (λ (l : List Line). IsAnswered w table l (server_read w.server (Ok x))) others
    (subst (λ (z : Line). IsAnswered w table rest (server_read w.server (Ok z))) same h)

-- the answer to the next line shows what an event of the server has to show
pub reads_next : (w : World) (inv : Inv w) (live : IsLive w) (x : Line) (up queued coming : List Line) (aborts : List ℕ)
    → IsNearBy live.table live.left w.up w.server.running w.server.waiting w.server.error (know_of w.server) queued coming
    aborts
    → coming ++ abort_lines aborts ≡ x ∷ up → IsAnswered w live.table up (server_read w.server (Ok x))
reads_next w inv live x up queued (y ∷ coming) aborts n e =
    read_here w live.table live.left x y up (coming ++ abort_lines aborts) e
    (reads_standard w live.table live.left y queued coming aborts
    (record {
      near = n;
      progress = live.progress;
      distinct = reads_distinct w.client.program.features w.down w.client.table live.table
          live.reads live.distinct;
      few = few_open w inv live;
    }))
reads_next w inv live x up queued [] (k ∷ aborts) n e =
    read_here w live.table live.left x (abort_line k) up (abort_lines aborts) e
    (reads_abort w live.table live.left k queued aborts n live.progress)
reads_next w inv live x up queued [] [] n e = absurd (cc)

-- a server on the client's connection reads the first line on its way up, if there is one, and all that holds is kept
pub reads_event : (w : World) → Inv w → w.server.on ≡ true → eqb w.server.last w.client.last ≡ true → Inv (server_reads w w.up)
reads_event w inv on same = go w.up refl inv.side
  where
    equal : w.server.last ≡ w.client.last
    equal = eqb-true w.server.last w.client.last same

    live_case : (x : Line) (up : List Line) → w.up ≡ x ∷ up → (live : IsLive w) → IsHere w live.table live.left
        ⊎ (IsAhead w live.table live.left ⊎ IsGone w) → Inv (answered w up (server_read w.server (Ok x)))
    live_case x up e live (inl here) =
        here_answers w up (server_read w.server (Ok x)) inv live on equal
        (reads_next w inv live x up here.near.queued here.near.coming here.near.aborts here.near.by (sym here.near.by.up_is ∙ e))
    live_case x up e live (inr (inl ahead)) = let below : w.server.last < w.client.last = ahead.below in absurd (omega (arith, equal))
    live_case x up e live (inr (inr gone)) = absurd (false≢true (sym gone.off ∙ on))

    go : (up : List Line) → w.up ≡ up → IsOff w ⊎ IsLive w → Inv (server_reads w up)
    go [] e side = inv
    go (x ∷ up) e (inl off) = off_answers w up (server_read w.server (Ok x)) [] inv off on (read_moves w.server (Ok x))
    go (x ∷ up) e (inr live) = live_case x up e live live.place

apart_below : (m n : ℕ) → m ≤ n → eqb m n ≡ false → m < n
apart_below m n le e = let apart : m ≡ n → ⊥ = eqb-false m n e in omega arith

-- a server on an older connection than the client's reads anything at all, and all that holds is kept
pub reads_old_event : (w : World) (reading : Reading) → Inv w → w.server.on ≡ true → eqb w.server.last w.client.last ≡ false
    → Inv (answered w w.up (server_read w.server reading))
reads_old_event w reading inv on apart = go inv.side
  where
    go : IsOff w ⊎ IsLive w → Inv (answered w w.up (server_read w.server reading))
    go (inl off) = off_answers w w.up (server_read w.server reading) [] inv off on (read_moves w.server reading)
    go (inr live) = old_answers w (server_read w.server reading) [] inv live on (apart_below w.server.last w.client.last inv.numbers apart)
        (read_moves w.server reading)

-- ---- turns and outcomes

-- an event of a server that has something to do
works : (w : World) (a : Answer) (acts : List Act) → Inv w → w.server.on ≡ true → Moves w.server a.server acts
    → ((live : IsLive w) (here : IsHere w live.table live.left) → IsAnswered w live.table w.up a) → Inv (answered w w.up a)
works w a acts inv on moves at_it = go inv.side
  where
    placed : (live : IsLive w) → IsHere w live.table live.left ⊎ (IsAhead w live.table live.left ⊎ IsGone w) → Inv (answered w w.up a)
    placed live (inl here) = here_answers w w.up a inv live on here.same (at_it live here)
    placed live (inr (inl ahead)) = old_answers w a acts inv live on ahead.below moves
    placed live (inr (inr gone)) = absurd (false≢true (sym gone.off ∙ on))

    go : IsOff w ⊎ IsLive w → Inv (answered w w.up a)
    go (inl off) = off_answers w w.up a acts inv off on moves
    go (inr live) = placed live live.place

-- if the test finds no line, there is no line
pub is_none_of : (o : Option Line) → is_none o ≡ true → o ≡ None
is_none_of None e = refl
is_none_of (Some x) e = absurd (false≢true e)

-- if the test finds that commands wait, their list is not empty
pub not_nothing : (l : List Waiting) → not (is_empty l) ≡ true → l ≡ [] → ⊥
not_nothing [] e none = false≢true e
not_nothing (x ∷ xs) e none = cc

-- who has something to do is on a connection
pub on_by : (w : World) → Inv w → (b : Bool) → w.server.on ≡ b → (w.server.running ≡ None → w.server.waiting ≡ [] → ⊥) → w.server.on ≡ true
on_by w inv true e busy = e
on_by w inv false e busy = let idle : IsIdle w.server = inv.idle e in absurd (busy idle.running idle.waiting)

-- the first command that waits is processed if none runs, and all that holds is kept
pub turn_event : (w : World) → Inv w → (is_none w.server.running && not (is_empty w.server.waiting)) ≡ true
    → Inv (answered w w.up (server_turned w.server))
turn_event w inv can =
    let parts = and_parts _ _ can in
    let no_run : w.server.running ≡ None = is_none_of w.server.running parts.0 in
    let some : w.server.waiting ≡ [] → ⊥ = not_nothing w.server.waiting parts.1 in
    let moves = turned_moves w.server in
    works w (server_turned w.server) moves.0 inv (on_by w inv w.server.on refl (λ r e. some e)) moves.1
    (λ live here. turned_here w live.table live.left here.near.queued here.near.coming here.near.aborts here.near.by live.progress here.same
    no_run some)

-- the machine is done with what runs, with an outcome that it can have, and all that holds is kept
pub machine_event : (w : World) (outcome : Outcome) → Inv w → may_end w.server.running outcome ≡ true
    → Inv (answered w w.up (server_machined w.server outcome))
machine_event w outcome inv can =
    let moves = machined_moves w.server outcome in
    works w (server_machined w.server outcome) moves.0 inv
    (on_by w inv w.server.on refl (λ r e. let no_end : may_end None outcome
    ≡ true = subst (λ (o : Option Line). may_end o outcome ≡ true) r can in false≢true no_end)) moves.1
    (λ live here. machined_here w live.table live.left here.near.queued here.near.coming here.near.aborts outcome here.near.by live.progress
    here.same can)

-- ---- connections

near_knows : (table : Table) (left : List Wanted) (up : List Line) (running : Option Line) (waiting : List Waiting)
    (error : Bool) (k l : Know) → KnowsMore k l → IsNear table left up running waiting error k
    → IsNear table left up running waiting error l
near_knows table left up running waiting error k l more n = record {
  queued = n.queued;
  coming = n.coming;
  aborts = n.aborts;
  by = record {
    waiting_is = n.by.waiting_is;
    up_is = n.by.up_is;
    standard_is = n.by.standard_is;
    event_is = n.by.event_is;
    standard = n.by.standard;
    idle = n.by.idle;
    stopped = n.by.stopped;
    clear_first = n.by.clear_first;
    asked_last = n.by.asked_last;
    clean = λ e.
        let c = n.by.clean e in
        record {
          steps = c.steps;
          todo = c.todo;
          commands = c.commands;
          sane = c.sane;
          touches = c.touches;
          fits = λ f. fits_more table.tally.todo k l more (c.fits f);
        };
  };
}

-- a server on no connection takes one that the client made later than its last, and all that holds is kept
pub accept_event : (w : World) (n : ℕ) → Inv w → (not w.server.on && (nat_lt w.server.last n && nat_le n w.client.last)) ≡ true
    → Inv (record w { server = server_accepted n w.server })
accept_event w n inv can =
    let parts = and_parts _ _ can in
    let numbers = and_parts _ _ parts.1 in
    let off : w.server.on ≡ false = is_off w.server.on parts.0 in
    let above : w.server.last < n = ltb-true w.server.last n numbers.0 in
    let made : n ≤ w.client.last = leb-true n w.client.last numbers.1 in
    record {
      program = inv.program;
      window = inv.window;
      numbers = made;
      ledger = up_to_above w.server.last n w.server.ledger (omega arith) inv.ledger;
      idle = λ e. absurd (false≢true (sym e));
      side = go off above made inv.side;
    }
  where
    is_off : (b : Bool) → not b ≡ true → b ≡ false
    is_off false e = refl
    is_off true e = absurd (false≢true e)

    placed : (live : IsLive w) → w.server.on ≡ false → w.server.last < n → n ≤ w.client.last → (b : Bool) → eqb n w.client.last ≡ b
        → IsHere w live.table live.left ⊎ (IsAhead w live.table live.left ⊎ IsGone w)
        → IsHere (record w { server = server_accepted n w.server }) live.table live.left
        ⊎ (IsAhead (record w { server = server_accepted n w.server }) live.table live.left
        ⊎ IsGone (record w { server = server_accepted n w.server }))
    placed live off above made b same (inl here) = absurd (false≢true (sym off ∙ here.on))
    placed live off above made b same (inr (inr gone)) = let here : w.server.last ≡ w.client.last = gone.same in absurd (omega arith)
    placed live off above made false apart (inr (inl ahead)) =
        inr (inl (record { below = apart_below n w.client.last made apart; near = ahead.near }))
    placed live off above made true same (inr (inl ahead)) =
        let idle : IsIdle w.server = inv.idle off in
        let near : IsNear live.table live.left w.up None [] false (know_of w.server) =
        near_knows live.table live.left w.up None [] false unknown (know_of w.server)
        (more_than_nothing (know_of w.server)) ahead.near in
        inl (record {
          on = refl;
          same = eqb-true n w.client.last same;
          near = subst (λ (o : Option Line). IsNear live.table live.left w.up o w.server.waiting w.server.error
              (know_of w.server)) (sym idle.running)
              (subst (λ (l : List Waiting). IsNear live.table live.left w.up None l w.server.error (know_of w.server))
              (sym idle.waiting)
              (subst (λ (b : Bool). IsNear live.table live.left w.up None [] b (know_of w.server)) (sym idle.error) near));
        })

    go : w.server.on ≡ false → w.server.last < n → n ≤ w.client.last → IsOff w ⊎ IsLive w
        → IsOff (record w { server = server_accepted n w.server }) ⊎ IsLive (record w { server = server_accepted n w.server })
    go off above made (inl h) = inl (record { off = h.off; rest = h.rest; served = h.served; told = h.told })
    go off above made (inr live) = inr (record {
      on = live.on;
      table = live.table;
      left = live.left;
      reads = live.reads;
      counted = live.counted;
      progress = live.progress;
      pending = live.pending;
      pending_is = live.pending_is;
      tidy = live.tidy;
      distinct = live.distinct;
      within = live.within;
      state = live.state;
      events = live.events;
      plain = live.plain;
      place = placed live off above made (eqb n w.client.last) refl live.place;
    })

-- a server that is on no connection now, with its ledger unchanged
abbrev gone_from : World → Bool → Option (List ℕ) → World
gone_from w homed tool = record w { server = record (server_left w.server) { homed = homed; tool = tool } }

-- the server is on no connection any more, homed or not and with any tool or none, and all that holds is kept
pub gone_event : (w : World) (homed : Bool) (tool : Option (List ℕ)) → Inv w
    → Inv (record w { server = record (server_left w.server) { homed = homed; tool = tool } })
gone_event w homed tool inv = record {
  program = inv.program;
  window = inv.window;
  numbers = inv.numbers;
  ledger = inv.ledger;
  idle = λ e. record { running = refl; waiting = refl; error = refl };
  side = go inv.side;
}
  where
    placed : (live : IsLive w) → IsHere w live.table live.left ⊎ (IsAhead w live.table live.left ⊎ IsGone w)
        → IsHere (gone_from w homed tool) live.table live.left ⊎ (IsAhead (gone_from w homed tool) live.table live.left
        ⊎ IsGone (gone_from w homed tool))
    placed live (inl here) = inr (inr (record { off = refl; same = here.same }))
    placed live (inr (inl ahead)) = inr (inl (record { below = ahead.below; near = ahead.near }))
    placed live (inr (inr gone)) = inr (inr (record { off = refl; same = gone.same }))

    go : IsOff w ⊎ IsLive w → IsOff (gone_from w homed tool) ⊎ IsLive (gone_from w homed tool)
    go (inl h) = inl (record { off = h.off; rest = h.rest; served = h.served; told = h.told })
    go (inr live) = inr (record {
      on = live.on;
      table = live.table;
      left = live.left;
      reads = live.reads;
      counted = live.counted;
      progress = live.progress;
      pending = live.pending;
      pending_is = live.pending_is;
      tidy = live.tidy;
      distinct = live.distinct;
      within = live.within;
      state = live.state;
      events = live.events;
      plain = live.plain;
      place = placed live live.place;
    })

-- the server leaves its connection, and all that holds is kept
pub left_event : (w : World) → Inv w → Inv (record w { server = server_left w.server })
left_event w inv = gone_event w w.server.homed w.server.tool inv

-- the server restarts, neither homed nor with a tool, and all that holds is kept
pub restart_event : (w : World) → Inv w → Inv (record w { server = server_restarted w.server })
restart_event w inv = gone_event w false None inv
