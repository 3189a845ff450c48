-- Events of the server: what its answers leave true.
use Rattle.protocol_model.proofs.Names.{[], ◌++◌, ◌<◌, ◌∙◌, ◌∷◌, ◌≡◌, ◌≤◌, ◌⊎◌, Act, acts_on, Answer, answered, ap, append-nil, AreUpTo, arith, cond}
use Rattle.protocol_model.proofs.Names.{contacts, eq-eqb, eqb, false, false≢true, inl, inr, Line, List, MadeContact, ne_eqb, None, Option, Reply}
use Rattle.protocol_model.proofs.Names.{Server, Some, subst, sym, Table, Tag, true, Wanted, ℕ}
use Rattle.protocol_model.specs.Typed.{World}
use Rattle.protocol_model.proofs.table.Basics.{if_true, if_false}
use Rattle.protocol_model.proofs.table.Replying.{Reads, reads_more, IsFront, front_trans, front_more}
use Rattle.protocol_model.proofs.invariant.Served.{Served, served_more, IsProgress, no_points, progress_other, contacts_more, made_up_to}
use Rattle.protocol_model.proofs.invariant.Moves.{done_on, acts_more, acts_done, acts_elsewhere, up_to_join, up_to_done, Moves}
use Rattle.protocol_model.proofs.invariant.Holding.{IsNear, IsTidy, IsLive, IsOff, IsHere, IsAhead, IsGone, IsIdle, Inv, know_of}

-- ---- what needs no look at the answer

moved_numbers : (w : World) (a : Answer) (acts : List Act) → Moves w.server a.server acts → w.server.last ≤ w.client.last
    → a.server.last ≤ w.client.last
moved_numbers w a acts m le = subst (λ (n : ℕ). n ≤ w.client.last) (sym m.last) le

moved_ledger : (s t : Server) (acts : List Act) → Moves s t acts → AreUpTo s.last s.ledger → AreUpTo t.last t.ledger
moved_ledger s t acts m h =
    let all : AreUpTo s.last (s.ledger ++ done_on s.last acts) = up_to_join s.last s.ledger (done_on s.last acts) h (up_to_done s.last acts)
    in
    subst (λ (n : ℕ). AreUpTo n t.ledger) (sym m.last) (subst (λ (l : List (ℕ × Act)). AreUpTo s.last l) (sym m.ledger) all)

still_on : (s t : Server) (acts : List Act) → Moves s t acts → s.on ≡ true → t.on ≡ false → IsIdle t
still_on s t acts m on off = absurd (false≢true (sym off ∙ (m.on ∙ on)))

moved_contacts : (s t : Server) (acts : List Act) → Moves s t acts → contacts t.ledger ≡ contacts s.ledger ++ contacts (done_on s.last acts)
moved_contacts s t acts m = ap contacts m.ledger ∙ contacts_more s.ledger (done_on s.last acts)

moved_acts : (n : ℕ) (s t : Server) (acts : List Act) → Moves s t acts
    → acts_on n t.ledger ≡ acts_on n s.ledger ++ acts_on n (done_on s.last acts)
moved_acts n s t acts m = ap (acts_on n) m.ledger ∙ acts_more n s.ledger (done_on s.last acts)

-- ---- a client on no connection

-- if the client is on no connection, an answer that only adds acts to the ledger of its connection keeps all that holds
pub off_answers : (w : World) (up : List Line) (a : Answer) (acts : List Act) → Inv w → IsOff w → w.server.on ≡ true
    → Moves w.server a.server acts → Inv (answered w up a)
off_answers w up a acts inv off on m = record {
  program = inv.program;
  window = inv.window;
  numbers = moved_numbers w a acts m inv.numbers;
  ledger = moved_ledger w.server a.server acts m inv.ledger;
  idle = still_on w.server a.server acts m on;
  side = inl (record {
    off = off.off;
    rest = off.rest;
    served = subst (λ (l : List MadeContact). Served w.client.program.features w.client.table.tally.features l)
        (sym (moved_contacts w.server a.server acts m)) (served_more _ _ (contacts w.server.ledger) _ off.served);
    told = front_trans _ _ _ off.told (subst (λ (l : List Act). IsFront (acts_on w.client.last w.server.ledger) l)
        (sym (moved_acts w.client.last w.server a.server acts m)) (front_more _ _));
  });
}

-- ---- the server on an older connection than the client

-- an answer on an older connection than the client's keeps all that holds, whatever lines it has
pub old_answers : (w : World) (a : Answer) (acts : List Act) → Inv w → IsLive w → w.server.on ≡ true → w.server.last < w.client.last
    → Moves w.server a.server acts → Inv (answered w w.up a)
old_answers w a acts inv live on below m =
    let apart : w.server.last ≡ w.client.last → ⊥ = λ (e : w.server.last ≡ w.client.last). omega arith in
    let down_is : cond (eqb w.server.last w.client.last) (w.down ++ a.said) w.down ≡ w.down =
    if_false {A = List Reply} _ _ _ (ne_eqb w.server.last w.client.last apart) in
    let ws : List Wanted = w.client.program.features in
    let none : live.table.tally.points ≡ [] = no_points ws w.client.last w.server.last live.table.tally.features live.table.tally.points
    (contacts w.server.ledger) live.left live.progress (made_up_to w.server.last w.server.ledger inv.ledger) below in
    record {
      program = inv.program;
      window = inv.window;
      numbers = moved_numbers w a acts m inv.numbers;
      ledger = moved_ledger w.server a.server acts m inv.ledger;
      idle = still_on w.server a.server acts m on;
      side = inr (record {
        on = live.on;
        table = live.table;
        left = live.left;
        reads = subst (λ (d : List Reply). Reads ws w.client.table d live.table) (sym down_is) live.reads;
        counted = live.counted ∙ sym (moved_acts w.client.last w.server a.server acts m
            ∙ (ap (λ (l : List Act). acts_on w.client.last w.server.ledger ++ l) (acts_elsewhere w.client.last w.server.last acts apart)
            ∙ append-nil _));
        progress = subst (λ (l : List MadeContact). IsProgress ws w.client.last live.table.tally.features live.table.tally.points l
            live.left)
            (sym (moved_contacts w.server a.server acts m))
            (progress_other ws w.client.last live.table.tally.features live.table.tally.points (contacts w.server.ledger)
            (contacts (done_on w.server.last acts)) live.left live.progress none);
        pending = live.pending;
        pending_is = live.pending_is;
        tidy = subst (λ (d : List Reply). IsTidy live.pending d) (sym down_is) live.tidy;
        distinct = live.distinct;
        within = live.within;
        state = live.state;
        events = live.events;
        plain = live.plain;
        place = place live.place;
      });
    }
  where
    place : IsHere w live.table live.left ⊎ (IsAhead w live.table live.left ⊎ IsGone w) → IsHere (answered w w.up a) live.table live.left
        ⊎ (IsAhead (answered w w.up a) live.table live.left ⊎ IsGone (answered w w.up a))
    place (inl here) = let same : w.server.last ≡ w.client.last = here.same in absurd (omega arith)
    place (inr (inl ahead)) = inr (inl (record {
      below = subst (λ (n : ℕ). n < w.client.last) (sym m.last) ahead.below;
      near = ahead.near;
    }))
    place (inr (inr gone)) = let same : w.server.last ≡ w.client.last = gone.same in absurd (omega arith)

-- ---- the server on the client's connection

-- if each error is followed at once by its end in two lists of replies, it is so in the two as one list
pub tidy_more : (p : Option Tag) (rs ss : List Reply) → IsTidy p rs → IsTidy None ss → IsTidy p (rs ++ ss)
tidy_more None [] ss h g = g
tidy_more (Some t) [] ss h g = absurd h
tidy_more None (Reply.Done u ∷ rs) ss h g = tidy_more None rs ss h g
tidy_more None (Reply.Ack u ∷ rs) ss h g = tidy_more None rs ss h g
tidy_more None (Reply.Given u p ∷ rs) ss h g = tidy_more None rs ss h g
tidy_more None (Reply.Error u code name ∷ rs) ss h g = (h.0, tidy_more (Some u) rs ss h.1 g)
tidy_more (Some t) (Reply.Done u ∷ rs) ss h g = (h.0, h.1, tidy_more None rs ss h.2 g)
tidy_more (Some t) (Reply.Ack u ∷ rs) ss h g = absurd h
tidy_more (Some t) (Reply.Given u p ∷ rs) ss h g = absurd h
tidy_more (Some t) (Reply.Error u code name ∷ rs) ss h g = absurd h

-- what an event of the server has to show
pub record IsAnswered (w : World) (table : Table) (up : List Line) (a : Answer) : Type 0 where
  pub acts : List Act
  pub moves : Moves w.server a.server acts
  pub next : Table
  pub left : List Wanted
  pub reads : Reads w.client.program.features table a.said next
  pub tidy : IsTidy None a.said
  pub counted : next.tally.counted ≡ table.tally.counted ++ acts
  pub progress : IsProgress w.client.program.features w.client.last next.tally.features next.tally.points (contacts w.server.ledger
      ++ contacts (done_on w.server.last acts)) left
  pub near : IsNear next left up a.server.running a.server.waiting a.server.error (know_of a.server)

-- an answer on the client's own connection keeps all that holds, if it shows what an event of the server has to show
pub here_answers : (w : World) (up : List Line) (a : Answer) → Inv w → (live : IsLive w) → w.server.on ≡ true
    → w.server.last ≡ w.client.last → IsAnswered w live.table up a → Inv (answered w up a)
here_answers w up a inv live on same is =
    let ws : List Wanted = w.client.program.features in
    let n : ℕ = w.client.last in
    let down_is : cond (eqb w.server.last w.client.last) (w.down ++ a.said) w.down ≡ w.down ++ a.said =
    if_true {A = List Reply} _ _ _ (eq-eqb w.server.last w.client.last same) in
    let done : acts_on n (done_on w.server.last is.acts) ≡ is.acts = ap (λ (m : ℕ). acts_on n (done_on m is.acts)) same
    ∙ acts_done n is.acts in
    record {
      program = inv.program;
      window = inv.window;
      numbers = moved_numbers w a is.acts is.moves inv.numbers;
      ledger = moved_ledger w.server a.server is.acts is.moves inv.ledger;
      idle = still_on w.server a.server is.acts is.moves on;
      side = inr (record {
        on = live.on;
        table = is.next;
        left = is.left;
        reads = subst (λ (d : List Reply). Reads ws w.client.table d is.next) (sym down_is)
            (reads_more ws w.down a.said w.client.table live.table is.next live.reads is.reads);
        counted = is.counted ∙ (ap (λ (l : List Act). l ++ is.acts) live.counted
            ∙ (ap (λ (l : List Act). acts_on n w.server.ledger ++ l) (sym done) ∙ sym (moved_acts n w.server a.server is.acts is.moves)));
        progress = subst (λ (l : List MadeContact). IsProgress ws n is.next.tally.features is.next.tally.points l is.left)
            (sym (moved_contacts w.server a.server is.acts is.moves)) is.progress;
        pending = live.pending;
        pending_is = live.pending_is;
        tidy = subst (λ (d : List Reply). IsTidy live.pending d) (sym down_is) (tidy_more live.pending w.down a.said live.tidy is.tidy);
        distinct = live.distinct;
        within = live.within;
        state = live.state;
        events = live.events;
        plain = live.plain;
        place = inl (record { on = is.moves.on ∙ on; same = is.moves.last ∙ same; near = is.near });
      });
    }
