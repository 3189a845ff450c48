-- A reply that a client expects: it and the witness still agree.
use Rattle.witness_laws.proofs.Names.{◌&&◌, ◌++◌, ◌||◌, ◌∙◌, ◌∷◌, ◌≡◌, [], all_renewed, answered_known, ap, append-nil, AreCounted, asks_data}
use Rattle.witness_laws.proofs.Names.{Becomes, becomes_calm, Bool, Closes, Command, cond, Counts, Datum, Dialogue, false, HasNoAbort, HaveArguments}
use Rattle.witness_laws.proofs.Names.{Heard, is_answer, is_error, is_failed, judged, Kind, kind_of, Known, List, list_any, no_closes, no_counts, None}
use Rattle.witness_laws.proofs.Names.{not, OpenCommand, Option, Progress, refl, Renewal, Reported, SentCommand, Some, stage_after, stage_with, step}
use Rattle.witness_laws.proofs.Names.{subst, sym, Table, tabled, Tag, Tally, true, Use, waits, ℕ}
use Rattle.protocol_model.specs.Replies.{Mark}
use Rattle.protocol_model.specs.declared.held.Stage.{Stage as OpenStage}
use Rattle.protocol_model.proofs.table.Counts.{failed_stays, is_failed-true, never_counts}
use Rattle.witness.specs.declared.lines.SentCommand.TheVariants.{Known as Sends}
use Rattle.witness_laws.specs.Acts.{all_done, Claims}
use Rattle.witness_laws.proofs.client.Agreeing.{is_standard, is_event, is_lost, IsOurs, AreOurs, ours_front, ours_rest, renewed_ours, picks_renewed, command_in}
use Rattle.witness_laws.proofs.client.Agreeing.{live, live_out, live_more, live_renewed, waits_renewed, event_rests, standard_waits, selected_past, selected_all}
use Rattle.witness_laws.proofs.client.Agreeing.{KnowsIf, AreKnown, selected_join, known_join, known_front, known_rest, selected_renewed, past_none, past_one}
use Rattle.witness_laws.proofs.client.Agreeing.{none_past, none_known, known_moved, commands_of, IsNext, AgreesOn}
use Rattle.witness_laws.proofs.client.Cuts.{kind_by, stage_by, entry, picks, picks_in, picks_out, picks_more}
use Rattle.witness_laws.proofs.client.Holding.{by_stage, so_far, Holds, AreDone, front_done, holds_moved, answer_moves, Carries, kept_moves, gone_moves}
use Rattle.witness_laws.proofs.client.Knowing.{Selected, selected_after}
use Rattle.witness_laws.proofs.client.Marks.{marked, others, own, uses_after, marked_as}
use Rattle.witness_laws.proofs.orders.Counts.{marked_counted, gone_counted, each_more}

-- ---- what is picked of the uses after a mark

pub picks_kept : (test : Tag → Bool) (before : List Use) (u : Use) (after : List Use) (h : Heard) → test u.tag ≡ true
    → picks test (uses_after before u after h false) ≡ picks test before ++ entry (own h u) ∷ picks test after
picks_kept test before u after h is =
    picks_more test (others u.line h before) (own h u ∷ others u.line h after)
    ∙ (ap (λ (l : List OpenCommand). l ++ picks test (own h u ∷ others u.line h after)) (picks_renewed test (marked u.line h) before)
    ∙ ap (λ (l : List OpenCommand). picks test before ++ l) (picks_in test (own h u) (others u.line h after) is
    ∙ ap (λ (l : List OpenCommand). entry (own h u) ∷ l) (picks_renewed test (marked u.line h) after)))

pub picks_gone : (test : Tag → Bool) (before : List Use) (u : Use) (after : List Use) (h : Heard)
    → picks test (uses_after before u after h true) ≡ picks test before ++ picks test after
picks_gone test before u after h =
    picks_more test (others u.line h before) (others u.line h after)
    ∙ (ap (λ (l : List OpenCommand). l ++ picks test (others u.line h after)) (picks_renewed test (marked u.line h) before)
    ∙ ap (λ (l : List OpenCommand). picks test before ++ l) (picks_renewed test (marked u.line h) after))

pub picks_other : (test : Tag → Bool) (before : List Use) (u : Use) (after : List Use) (h : Heard) (ended : Bool) → test u.tag ≡ false
    → picks test (uses_after before u after h ended) ≡ picks test (before ++ u ∷ after)
picks_other test before u after h true is = picks_gone test before u after h
    ∙ (ap (λ (l : List OpenCommand). picks test before ++ l) (sym (picks_out test u after is)) ∙ sym (picks_more test before (u ∷ after)))
picks_other test before u after h false is =
    picks_more test (others u.line h before) (own h u ∷ others u.line h after)
    ∙ (ap (λ (l : List OpenCommand). l ++ picks test (own h u ∷ others u.line h after)) (picks_renewed test (marked u.line h) before)
    ∙ (ap (λ (l : List OpenCommand). picks test before ++ l) (picks_out test (own h u) (others u.line h after) is
    ∙ (picks_renewed test (marked u.line h) after ∙ sym (picks_out test u after is)))
    ∙ sym (picks_more test before (u ∷ after))))

live_kept : (before : List Use) (u : Use) (after : List Use) (h : Heard) → waits (own h u) ≡ waits u
    → live (uses_after before u after h false) ≡ live (before ++ u ∷ after)
live_kept before u after h same =
    live_more (others u.line h before) (own h u ∷ others u.line h after)
    ∙ (ap (λ (l : List Command). l ++ live (own h u ∷ others u.line h after)) (live_renewed (marked u.line h) before)
    ∙ (ap (λ (l : List Command). live before ++ cond (waits (own h u)) (command_in u.command ∷ l) l) (live_renewed (marked u.line h) after)
    ∙ (ap (λ (b : Bool). live before ++ cond b (command_in u.command ∷ live after) (live after)) same
    ∙ sym (live_more before (u ∷ after)))))

pub live_gone : (before : List Use) (u : Use) (after : List Use) (h : Heard)
    → live (uses_after before u after h true) ≡ live before ++ live after
live_gone before u after h =
    live_more (others u.line h before) (others u.line h after)
    ∙ (ap (λ (l : List Command). l ++ live (others u.line h after)) (live_renewed (marked u.line h) before)
    ∙ ap (λ (l : List Command). live before ++ l) (live_renewed (marked u.line h) after))

-- ---- around one use

-- the parts of what agreed, around one use
pub record Around (lossy : Bool) (b : Table) (d : Dialogue) (before : List Use) (u : Use) (after : List Use) : Type 0 where
  pub parts : d.uses ≡ before ++ u ∷ after
  pub agrees : AgreesOn lossy b d
  pub one : IsOurs u
  pub earlier : AreOurs before
  pub later : AreOurs after
  pub rising : AreCounted 0 (before ++ u ∷ after) d.lines

pub around : (lossy : Bool) (b : Table) (d : Dialogue) (before : List Use) (u : Use) (after : List Use) → AgreesOn lossy b d
    → d.uses ≡ before ++ u ∷ after → Around lossy b d before u after
around lossy b d before u after a parts =
    let all : AreOurs (before ++ u ∷ after) = subst AreOurs parts (AgreesOn.ours a) in
    let rest : AreOurs (u ∷ after) = ours_rest before (u ∷ after) all in
    record {
      parts = parts;
      agrees = a;
      one = rest.0;
      earlier = ours_front before (u ∷ after) all;
      later = rest.1;
      rising = subst (λ (l : List Use). AreCounted 0 l d.lines) parts (AgreesOn.rising a);
    }

-- the use itself, at its next stage
pub own_stage : (u : Use) (h : Heard) (c : Command) → u.command ≡ Sends c
    → (own h u).stage ≡ stage_after u.stage (step (asks_data (kind_of c)) u.stage h)
own_stage u h c sends = ap (λ (a : SentCommand). stage_with a u.stage h) sends

pub own_ours : (u : Use) (h : Heard) (c : Command) → IsOurs u → u.command ≡ Sends c
    → (is_lost u.stage || is_error h) ≡ is_lost (stage_after u.stage (step (asks_data (kind_of c)) u.stage h)) → IsOurs (own h u)
own_ours u h c one sends lost = record {
  command = IsOurs.command one;
  sends = IsOurs.sends one;
  alone = IsOurs.alone one;
  lost = ap (λ (b : Bool). b || is_error h) (IsOurs.lost one) ∙ (lost ∙ ap is_lost (sym (own_stage u h c sends)));
  sort = IsOurs.sort one;
  some = IsOurs.some one;
}

-- what agrees after a mark
pub marked_agrees : (lossy : Bool) (b : Table) (d : Dialogue) (before : List Use) (u : Use) (after : List Use) (h : Heard) (ended : Bool)
    (more : List Reported) (standard event : List OpenCommand) (y : Tally) → Around lossy b d before u after
    → (ended ≡ false → IsOurs (own h u))
    → picks is_standard (uses_after before u after h ended) ≡ standard
    → picks is_event (uses_after before u after h ended) ≡ event
    → (lossy ≡ false → d.reported ++ more ≡ all_done y.counted) → Claims y.counted (d.reported ++ more)
    → HaveArguments y.unsent → HasNoAbort y.unsent
    → (y.failed ≡ false → IsNext lossy (marked_as d before u after h ended more) y)
    → AgreesOn lossy (tabled standard event y) (marked_as d before u after h ended more)
marked_agrees lossy b d before u after h ended more standard event y a one standard_is event_is exact claims arguments no_abort calm =
    record {
      ours = ours ended one;
      rising = rising ended;
      straight = AgreesOn.straight (Around.agrees a);
      events = AgreesOn.events (Around.agrees a);
      standard = standard_is;
      event = event_is;
      exact = exact;
      claims = claims;
      arguments = arguments;
      no_abort = no_abort;
      calm = calm;
    }
  where
    ours : (e : Bool) → (e ≡ false → IsOurs (own h u)) → AreOurs (uses_after before u after h e)
    ours true kept = each_more IsOurs (others u.line h before) (others u.line h after) (renewed_ours (marked u.line h) before (Around.earlier a))
        (renewed_ours (marked u.line h) after (Around.later a))
    ours false kept = each_more IsOurs (others u.line h before) (own h u ∷ others u.line h after)
        (renewed_ours (marked u.line h) before (Around.earlier a)) (kept refl, renewed_ours (marked u.line h) after (Around.later a))

    rising : (e : Bool) → AreCounted 0 (uses_after before u after h e) d.lines
    rising true = gone_counted (marked u.line h) 0 before u after d.lines (Around.rising a)
    rising false = marked_counted (marked u.line h) 0 before u (own h u) after d.lines refl (Around.rising a)

-- nothing more is reported
pub quiet_exact : (lossy : Bool) (acts : List Reported) (reported : List Reported) → (lossy ≡ false → reported ≡ acts)
    → lossy ≡ false → reported ++ [] ≡ acts
quiet_exact lossy acts reported h e = append-nil reported ∙ h e

-- ---- what is known after a mark

-- of a use that is no change, or does not wait, nothing is carried
none_carried : (h : Heard) (later : Option Progress) → Carries None h later
none_carried h later s p is = absurd (cc)

pub rest_so_far : (u : Use) → waits u ≡ false → so_far u ≡ None
rest_so_far u e = ap (λ (b : Bool). cond (b && not (asks_data (kind_by u.command))) (by_stage u.stage) None) e

pub rest_carries : (u : Use) (h : Heard) (later : Option Progress) → waits u ≡ false → Carries (so_far u) h later
rest_carries u h later e = subst (λ (o : Option Progress). Carries o h later) (sym (rest_so_far u e)) (none_carried h later)

-- what a use knows that is answered, which is at the front
answered_holds : (lossy : Bool) (us : List Use) (top : ℕ) (v : Selected) (k : Known) (h : Heard) → (is_answer h ≡ true → AreDone us top)
    → Holds lossy us top v k → Holds lossy us top v (answered_known h k)
answered_holds lossy us top v k h all holds = go (is_answer h) refl
  where
    go : (b : Bool) → is_answer h ≡ b → Holds lossy us top v (cond b (all_renewed Renewal.Answer k) k)
    go true is = holds_moved lossy lossy us us top Renewal.Answer v k (answer_moves lossy us top (all is)) holds
    go false is = holds

-- along the uses before and after one
record IsAlong (lossy : Bool) (base : Selected) (before : List Use) (u : Use) (after : List Use) (lines : ℕ) (k : Known) : Type 0 where
  earlier : AreKnown lossy (before ++ u ∷ after) base before
  here : KnowsIf (waits u) lossy (before ++ u ∷ after) (selected_all base before) u
  later : AreKnown lossy (before ++ u ∷ after) (selected_past (selected_all base before) u) after
  last : Holds lossy (before ++ u ∷ after) lines (selected_all (selected_past (selected_all base before) u) after) k

along : (lossy : Bool) (d : Dialogue) (y : Tally) (before : List Use) (u : Use) (after : List Use) (n : IsNext lossy d y)
    → d.uses ≡ before ++ u ∷ after → IsAlong lossy (IsNext.base n) before u after d.lines d.known
along lossy d y before u after n parts =
    let all : AreKnown lossy (before ++ u ∷ after) (IsNext.base n) (before ++ u ∷ after) =
    subst (λ (l : List Use). AreKnown lossy l (IsNext.base n) l) parts (IsNext.known n) in
    let last : Holds lossy (before ++ u ∷ after) d.lines (selected_all (IsNext.base n) (before ++ u ∷ after)) d.known =
    subst (λ (l : List Use). Holds lossy l d.lines (selected_all (IsNext.base n) l) d.known) parts (IsNext.last n) in
    let rest : AreKnown lossy (before ++ u ∷ after) (selected_all (IsNext.base n) before) (u ∷ after) =
    known_rest lossy (before ++ u ∷ after) (IsNext.base n) before (u ∷ after) all in
    record {
      earlier = known_front lossy (before ++ u ∷ after) (IsNext.base n) before (u ∷ after) all;
      here = rest.0;
      later = rest.1;
      last = subst (λ (v : Selected). Holds lossy (before ++ u ∷ after) d.lines v d.known)
          (selected_join (IsNext.base n) before (u ∷ after)) last;
    }

-- a use that is kept, and waits as before
pub next_kept : (lossy : Bool) (d : Dialogue) (y : Tally) (before : List Use) (u : Use) (after : List Use) (h : Heard) (more : List Reported)
    → d.uses ≡ before ++ u ∷ after → AreCounted 0 (before ++ u ∷ after) d.lines → waits (own h u) ≡ waits u
    → Carries (so_far u) h (so_far (own h u)) → (is_answer h ≡ true → waits u ≡ true → list_any waits before ≡ false)
    → IsNext lossy d y → IsNext lossy (marked_as d before u after h false more) y
next_kept lossy d y before u after h more parts rising same carries front n = record {
  base = base;
  commands = ap (λ (l : List Command). l ++ commands_of y.unsent) (live_kept before u after h same ∙ ap live (sym parts)) ∙ IsNext.commands n;
  agrees = IsNext.agrees n;
  known = known_join lossy now base (others u.line h before) (own h u ∷ others u.line h after)
      (known_moved lossy lossy whole now (marked u.line h) base before moved (IsAlong.earlier a))
      (subst (λ (v : Selected). AreKnown lossy now v (own h u ∷ others u.line h after)) (sym (selected_renewed (marked u.line h) base before)) (
        subst (λ (b : Bool). KnowsIf b lossy now there (own h u)) (sym same) (here (waits u) refl (IsAlong.here a)),
        subst (λ (v : Selected). AreKnown lossy now v (others u.line h after)) (sym past_same)
            (known_moved lossy lossy whole now (marked u.line h) (selected_past there u) after moved (IsAlong.later a)),
      ));
  last = subst (λ (v : Selected). Holds lossy now d.lines v (marked u.line h d.known)) (sym selected_same)
      (moved d.lines (selected_all (selected_past there u) after) d.known (IsAlong.last a));
}
  where
    base : Selected
    base = IsNext.base n

    there : Selected
    there = selected_all (IsNext.base n) before

    whole : List Use
    whole = before ++ u ∷ after

    now : List Use
    now = others u.line h before ++ own h u ∷ others u.line h after

    a : IsAlong lossy (IsNext.base n) before u after d.lines d.known
    a = along lossy d y before u after n parts

    moved : (top : ℕ) (v : Selected) (k : Known) → Holds lossy (before ++ u ∷ after) top v k
        → Holds lossy (others u.line h before ++ own h u ∷ others u.line h after) top v (marked u.line h k)
    moved top v k = holds_moved lossy lossy (before ++ u ∷ after) (others u.line h before ++ own h u ∷ others u.line h after) top
        (Renewal.Mark u.line h) v k (kept_moves lossy (marked u.line h) 0 before u (own h u) after top d.lines h rising refl carries)

    here : (b : Bool) → waits u ≡ b → KnowsIf b lossy (before ++ u ∷ after) (selected_all (IsNext.base n) before) u
        → KnowsIf b lossy (others u.line h before ++ own h u ∷ others u.line h after) (selected_all (IsNext.base n) before) (own h u)
    here true is g = moved u.line (selected_all (IsNext.base n) before) (answered_known h u.known)
        (answered_holds lossy (before ++ u ∷ after) u.line (selected_all (IsNext.base n) before) u.known h
        (λ e. front_done before u after d.lines rising (front e is)) g)
    here false is g = tt

    past_same : selected_past (selected_all (IsNext.base n) before) (own h u) ≡ selected_past (selected_all (IsNext.base n) before) u
    past_same = ap (λ (b : Bool). cond b (selected_after (selected_all (IsNext.base n) before) (command_in u.command))
        (selected_all (IsNext.base n) before)) same

    selected_same : selected_all (IsNext.base n) (others u.line h before ++ own h u ∷ others u.line h after)
        ≡ selected_all (selected_past (selected_all (IsNext.base n) before) u) after
    selected_same = selected_join (IsNext.base n) (others u.line h before) (own h u ∷ others u.line h after)
        ∙ (ap (λ (v : Selected). selected_all (selected_past v (own h u)) (others u.line h after))
        (selected_renewed (marked u.line h) (IsNext.base n) before)
        ∙ (ap (λ (v : Selected). selected_all v (others u.line h after)) past_same
        ∙ selected_renewed (marked u.line h) (selected_past (selected_all (IsNext.base n) before) u) after))

gone_holds : (lossy : Bool) (d : Dialogue) (before : List Use) (u : Use) (after : List Use) (h : Heard)
    → AreCounted 0 (before ++ u ∷ after) d.lines → Carries (so_far u) h (Some Progress.Done)
    → (top : ℕ) (v : Selected) (k : Known) → Holds lossy (before ++ u ∷ after) top v k
    → Holds lossy (others u.line h before ++ others u.line h after) top v (marked u.line h k)
gone_holds lossy d before u after h rising carries top v k =
    holds_moved lossy lossy (before ++ u ∷ after) (others u.line h before ++ others u.line h after) top (Renewal.Mark u.line h) v k
    (gone_moves lossy (marked u.line h) 0 before u after top d.lines h rising carries)

-- a use is gone that did not wait
pub next_closed : (lossy : Bool) (d : Dialogue) (y : Tally) (before : List Use) (u : Use) (after : List Use) (h : Heard) (more : List Reported)
    → d.uses ≡ before ++ u ∷ after → AreCounted 0 (before ++ u ∷ after) d.lines → waits u ≡ false
    → IsNext lossy d y → IsNext lossy (marked_as d before u after h true more) y
next_closed lossy d y before u after h more parts rising rests n = record {
  base = IsNext.base n;
  commands = ap (λ (l : List Command). l ++ commands_of y.unsent)
      (live_gone before u after h ∙ (ap (λ (l : List Command). live before ++ l) (sym (live_out u after rests))
      ∙ (sym (live_more before (u ∷ after)) ∙ ap live (sym parts)))) ∙ IsNext.commands n;
  agrees = IsNext.agrees n;
  known = known_join lossy now (IsNext.base n) (others u.line h before) (others u.line h after)
      (known_moved lossy lossy (before ++ u ∷ after) now (marked u.line h) (IsNext.base n) before moved (IsAlong.earlier a))
      (subst (λ (v : Selected). AreKnown lossy now v (others u.line h after))
      (past_none there u rests ∙ sym (selected_renewed (marked u.line h) (IsNext.base n) before))
      (known_moved lossy lossy (before ++ u ∷ after) now (marked u.line h) (selected_past there u) after moved (IsAlong.later a)));
  last = subst (λ (v : Selected). Holds lossy now d.lines v (marked u.line h d.known)) (sym selected_same)
      (moved d.lines (selected_all (selected_past there u) after) d.known (IsAlong.last a));
}
  where
    there : Selected
    there = selected_all (IsNext.base n) before

    now : List Use
    now = others u.line h before ++ others u.line h after

    a : IsAlong lossy (IsNext.base n) before u after d.lines d.known
    a = along lossy d y before u after n parts

    moved : (top : ℕ) (v : Selected) (k : Known) → Holds lossy (before ++ u ∷ after) top v k
        → Holds lossy (others u.line h before ++ others u.line h after) top v (marked u.line h k)
    moved = gone_holds lossy d before u after h rising (rest_carries u h (Some Progress.Done) rests)

    selected_same : selected_all (IsNext.base n) (others u.line h before ++ others u.line h after)
        ≡ selected_all (selected_past (selected_all (IsNext.base n) before) u) after
    selected_same = selected_join (IsNext.base n) (others u.line h before) (others u.line h after)
        ∙ (ap (λ (v : Selected). selected_all v (others u.line h after)) (selected_renewed (marked u.line h) (IsNext.base n) before)
        ∙ (selected_renewed (marked u.line h) (selected_all (IsNext.base n) before) after
        ∙ ap (λ (v : Selected). selected_all v after) (sym (past_none (selected_all (IsNext.base n) before) u rests))))

-- what is known if the first use that waits is gone, which was counted
pub record IsCounted (lossy : Bool) (d : Dialogue) (before : List Use) (u : Use) (after : List Use) (h : Heard) (base next : Selected) : Type 0
  where
    pub fits : Holds lossy (before ++ u ∷ after) u.line base u.known
    pub known : AreKnown lossy (others u.line h before ++ others u.line h after) next (others u.line h before ++ others u.line h after)
    pub last : Holds lossy (others u.line h before ++ others u.line h after) d.lines
        (selected_all next (others u.line h before ++ others u.line h after)) (marked u.line h d.known)

pub next_counted : (lossy : Bool) (d : Dialogue) (y : Tally) (before : List Use) (u : Use) (after : List Use) (h : Heard) (c : Command)
    → d.uses ≡ before ++ u ∷ after → AreCounted 0 (before ++ u ∷ after) d.lines → waits u ≡ true → list_any waits before ≡ false
    → u.command ≡ Sends c → Carries (so_far u) h (Some Progress.Done) → (n : IsNext lossy d y)
    → IsCounted lossy d before u after h (IsNext.base n) (selected_after (IsNext.base n) c)
next_counted lossy d y before u after h c parts rising waits_now none sends carries n = record {
  fits = subst (λ (v : Selected). Holds lossy (before ++ u ∷ after) u.line v u.known) none_before_it
      (subst (λ (b : Bool). KnowsIf b lossy (before ++ u ∷ after) (selected_all (IsNext.base n) before) u) waits_now (IsAlong.here a));
  known = known_join lossy now next (others u.line h before) (others u.line h after)
      (none_known lossy now next (others u.line h before) none_now)
      (subst (λ (v : Selected). AreKnown lossy now v (others u.line h after)) (past_is ∙ sym (none_past next (others u.line h before) none_now))
      (known_moved lossy lossy (before ++ u ∷ after) now (marked u.line h) (selected_past there u) after moved (IsAlong.later a)));
  last = subst (λ (v : Selected). Holds lossy now d.lines v (marked u.line h d.known)) (sym selected_same)
      (moved d.lines (selected_all (selected_past there u) after) d.known (IsAlong.last a));
}
  where
    next : Selected
    next = selected_after (IsNext.base n) c

    there : Selected
    there = selected_all (IsNext.base n) before

    now : List Use
    now = others u.line h before ++ others u.line h after

    a : IsAlong lossy (IsNext.base n) before u after d.lines d.known
    a = along lossy d y before u after n parts

    moved : (top : ℕ) (v : Selected) (k : Known) → Holds lossy (before ++ u ∷ after) top v k
        → Holds lossy (others u.line h before ++ others u.line h after) top v (marked u.line h k)
    moved = gone_holds lossy d before u after h rising carries

    none_before_it : selected_all (IsNext.base n) before ≡ IsNext.base n
    none_before_it = none_past (IsNext.base n) before none

    none_now : list_any waits (others u.line h before) ≡ false
    none_now = waits_renewed (marked u.line h) before ∙ none

    past_is : selected_past (selected_all (IsNext.base n) before) u ≡ selected_after (IsNext.base n) c
    past_is = past_one (selected_all (IsNext.base n) before) u waits_now
        ∙ (ap (λ (x : SentCommand). selected_after (selected_all (IsNext.base n) before) (command_in x)) sends
        ∙ ap (λ (v : Selected). selected_after v c) none_before_it)

    selected_same : selected_all (selected_after (IsNext.base n) c) (others u.line h before ++ others u.line h after)
        ≡ selected_all (selected_past (selected_all (IsNext.base n) before) u) after
    selected_same = selected_join (selected_after (IsNext.base n) c) (others u.line h before) (others u.line h after)
        ∙ (ap (λ (v : Selected). selected_all v (others u.line h after))
        (none_past (selected_after (IsNext.base n) c) (others u.line h before) none_now)
        ∙ (selected_renewed (marked u.line h) (selected_after (IsNext.base n) c) after
        ∙ ap (λ (v : Selected). selected_all v after) (sym past_is)))

-- ---- what is counted and closed

-- a stage that is failed stays so, and one that is not does too
pub becomes_alike : (front : Bool) (k : Kind) (s : OpenStage) (m : Mark) (next : OpenStage) → judged front k s m ≡ Becomes next
    → is_failed next ≡ is_failed s
becomes_alike front k s m next v = go (is_failed s) refl
  where
    go : (b : Bool) → is_failed s ≡ b → is_failed next ≡ is_failed s
    go true failed = ap is_failed (failed_stays front k m next
        (ap (λ (x : OpenStage). judged front k x m) (sym (is_failed-true s failed)) ∙ v)) ∙ sym failed
    go false calm = becomes_calm front k s m next calm v ∙ sym calm

-- a use at a stage that is failed as before waits as before
pub same_waits : (u : Use) (h : Heard) (next : OpenStage) → IsOurs u → IsOurs (own h u) → stage_by (own h u).stage ≡ next
    → is_failed next ≡ is_failed (stage_by u.stage) → waits (own h u) ≡ waits u
same_waits u h next one own_one is same = go (is_event u.tag) refl
  where
    go : (b : Bool) → is_event u.tag ≡ b → waits (own h u) ≡ waits u
    go true event = event_rests (own h u) own_one event ∙ sym (event_rests u one event)
    go false event = standard_waits (own h u) own_one event
        ∙ (ap (λ (x : OpenStage). not (is_failed x)) is ∙ (ap not same ∙ sym (standard_waits u one event)))

pub closed_failed : (front : Bool) (k : Kind) (s : OpenStage) (m : Mark) → judged front k s m ≡ Closes → is_failed s ≡ true
closed_failed front k s m v = go (is_failed s) refl
  where
    go : (b : Bool) → is_failed s ≡ b → is_failed s ≡ true
    go true failed = failed
    go false calm = absurd (no_closes front k s m calm v)

pub counted_calm : (front : Bool) (k : Kind) (s : OpenStage) (m : Mark) (given : Option Datum) → judged front k s m ≡ Counts given
    → is_failed s ≡ false
counted_calm front k s m given v = go (is_failed s) refl
  where
    go : (b : Bool) → is_failed s ≡ b → is_failed s ≡ false
    go true failed = absurd (never_counts front k m given (ap (λ (x : OpenStage). judged front k x m) (sym (is_failed-true s failed)) ∙ v))
    go false calm = calm

pub counted_front : (front : Bool) (k : Kind) (s : OpenStage) (m : Mark) (given : Option Datum) → judged front k s m ≡ Counts given
    → front ≡ true
counted_front true k s m given v = refl
counted_front false k s m given v = absurd (no_counts k s m given v)
