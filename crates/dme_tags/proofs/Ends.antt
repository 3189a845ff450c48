-- Which end of a command is due, and which refusal.
use Rattle.dme_tags.proofs.Names.{[], ◌&&◌, ◌↔◌, ◌∙◌, ◌∷◌, ◌≡◌, ◌⊎◌, ahead_of, all_failed, ap, asks_data, AwaitsData, Becomes, Bool, Breaks, Cause}
use Rattle.dme_tags.proofs.Names.{cause_of, Closes, cond, Counts, CountsAs, Datum, Effect, effect_heard, effect_of, Ended, Err, Event, false}
use Rattle.dme_tags.proofs.Names.{HasFailed, Heard, heard, heard_in, IfErr, IfOk, inl, inr, is_failed, is_next, IsErrOf, IsOk, IsRefused, IsUnread}
use Rattle.dme_tags.proofs.Names.{judged, judged_done, Kind, kind_under, List, Mark, None, not, Ok, OpenCommand, OpenValue, Option, put_before, refl}
use Rattle.dme_tags.proofs.Names.{Refused, Result, settled, Some, Stage, standing, standing_in, Std, subst, sym, Tag, tag_is, TagFault, true, Verdict}
use Rattle.dme_tags.proofs.Names.{ℕ}
use Rattle.dme_tags.specs.Endings.{IsEnding}
use Rattle.dme_tags.proofs.Refusals.{refused_standard, refused_event}
use Rattle.dme_tags.proofs.Effects.{standard_effect, event_effect}
use Rattle.dme_tags.proofs.Dues.{Standing, Asks, Agrees, IsSaid, and_assoc, and_true, compose, err_exactly, fault_for, fits_err}
use Rattle.dme_tags.proofs.Dues.{named_by, next_all, next_iff, next_only, none_some, ok_exactly, refusal_of, refusal_under}
use Rattle.dme_tags.proofs.Dues.{ack_causes, agrees_event, agrees_standard, done_causes, error_causes, named_two, unknown_exactly}

-- ---- the effect of a mark

abbrev effect_of_verdict : Kind → Verdict → Option Effect
effect_of_verdict k (Becomes stage) = Some Effect.Quiet
effect_of_verdict k Breaks = Some Effect.Failure
effect_of_verdict k Closes = Some Effect.Quiet
effect_of_verdict k (Counts given) = Some (Effect.Count k given)
effect_of_verdict k (Refused why) = None

abbrev effect_under : Standing → Bool → Mark → Option Effect
effect_under None front m = None
effect_under (Some (k, stage)) front m = effect_of_verdict k (judged front k stage m)

settled_effect : (h : OpenCommand) (hs : List OpenCommand) (v : Verdict) → effect_heard (settled h hs v) ≡ effect_of_verdict h.kind v
settled_effect h hs (Becomes stage) = refl
settled_effect h hs Breaks = refl
settled_effect h hs Closes = refl
settled_effect h hs (Counts given) = refl
settled_effect h hs (Refused why) = refl

put_effect : (h : OpenCommand) (r : Heard) → effect_heard (put_before h r) ≡ effect_heard r
put_effect h (Ok (hs, e)) = refl
put_effect h (Err why) = refl

effect_is : (front : Bool) (hs : List OpenCommand) (t : Tag) (m : Mark)
    → effect_heard (heard_in front hs t m) ≡ effect_under (standing_in t hs) (front && all_failed (ahead_of t hs)) m
effect_is front [] t m = refl
effect_is front (h ∷ hs) t m = go (effect_is (front && is_failed h.stage) hs t m) (tag_is h.tag t)
  where
    go : effect_heard (heard_in (front && is_failed h.stage) hs t m)
        ≡ effect_under (standing_in t hs) ((front && is_failed h.stage) && all_failed (ahead_of t hs)) m
        → (b : Bool) → effect_heard (cond b (settled h hs (judged front h.kind h.stage m))
        (put_before h (heard_in (front && is_failed h.stage) hs t m)))
        ≡ effect_under (cond b (Some (h.kind, h.stage)) (standing_in t hs)) (front && all_failed (cond b [] (h ∷ ahead_of t hs))) m
    go deeper true = settled_effect h hs (judged front h.kind h.stage m)
        ∙ ap (λ (b : Bool). effect_of_verdict h.kind (judged b h.kind h.stage m)) (sym (and_true front))
    go deeper false = put_effect h (heard_in (front && is_failed h.stage) hs t m)
        ∙ (deeper ∙ ap (λ (b : Bool). effect_under (standing_in t hs) b m)
        (and_assoc front (is_failed h.stage) (all_failed (ahead_of t hs))))

effect_due : (o : OpenValue) (t : Tag) (m : Mark) → effect_heard (heard o t m) ≡ effect_under (standing t o) (is_next t o) m
effect_due o (Std n) m = standard_effect o n m _ (effect_is (not o.failed) o.standard (Std n) m)
effect_due o (Event n) m = event_effect o n m _ (effect_is true o.event (Event n) m)

-- where a mark has an effect it is not refused
effect_taken : (s : Standing) (front : Bool) (m : Mark) (e : Effect) → effect_under s front m ≡ Some e → refusal_under s front m ≡ None
effect_taken None front m e is = absurd (cc)
effect_taken (Some (k, s)) front m e is = go (judged front k s m) is
  where
    go : (v : Verdict) → effect_of_verdict k v ≡ Some e → refusal_of v ≡ None
    go (Becomes stage) is = refl
    go Breaks is = refl
    go Closes is = refl
    go (Counts given) is = refl
    go (Refused why) is = absurd (cc)

-- ---- which end is due

-- a command that asks for no data, received
plain_only : (s : Standing) (b : Bool) (k : Kind) → effect_under s b Mark.Done ≡ Some (Effect.Count k None)
    → (s ≡ Some (k, Stage.Received)) × (asks_data k ≡ false) × (b ≡ true)
plain_only None b k e = absurd (cc)
plain_only (Some (j, s)) b k e = go b (asks_data j) refl s e
  where
    go : (b a : Bool) → asks_data j ≡ a → (s : Stage) → effect_of_verdict j (judged_done b a s) ≡ Some (Effect.Count k None)
        → (◌≡◌ {A = Standing} (Some (j, s)) (Some (k, Stage.Received))) × (asks_data k ≡ false) × (b ≡ true)
    go true true is Stage.Sent e = absurd (cc)
    go true true is Stage.Received e = absurd (cc)
    go true true is (Stage.Given q) e = absurd (cc)
    go true true is Stage.Failed e = absurd (cc)
    go true false is Stage.Sent e = absurd (cc)
    go true false is Stage.Received e = let same : j ≡ k = cc in
        (ap (λ (x : Kind). Some (x, Stage.Received)) same, ap asks_data (sym same) ∙ is, refl)
    go true false is (Stage.Given q) e = absurd (cc)
    go true false is Stage.Failed e = absurd (cc)
    go false a is Stage.Sent e = absurd (cc)
    go false a is Stage.Received e = absurd (cc)
    go false a is (Stage.Given q) e = absurd (cc)
    go false a is Stage.Failed e = absurd (cc)

plain_all : (s : Standing) (b : Bool) (k : Kind) → (s ≡ Some (k, Stage.Received)) × (asks_data k ≡ false) × (b ≡ true)
    → effect_under s b Mark.Done ≡ Some (Effect.Count k None)
plain_all s b k h = ap (λ (x : Standing). effect_under x b Mark.Done) h.0
    ∙ (ap (λ (a : Bool). effect_of_verdict k (judged_done b a Stage.Received)) h.1
    ∙ ap (λ (x : Bool). effect_of_verdict k (judged_done x false Stage.Received)) h.2)

-- a command with its data
given_only : (s : Standing) (b : Bool) (k : Kind) (p : Datum) → effect_under s b Mark.Done ≡ Some (Effect.Count k (Some p))
    → (s ≡ Some (k, Stage.Given p)) × (b ≡ true)
given_only None b k p e = absurd (cc)
given_only (Some (j, s)) b k p e = go b (asks_data j) s e
  where
    go : (b a : Bool) (s : Stage) → effect_of_verdict j (judged_done b a s) ≡ Some (Effect.Count k (Some p))
        → (◌≡◌ {A = Standing} (Some (j, s)) (Some (k, Stage.Given p))) × (b ≡ true)
    go true true Stage.Sent e = absurd (cc)
    go true true Stage.Received e = absurd (cc)
    go true true (Stage.Given q) e = let same : j ≡ k = cc in let at : q ≡ p = cc
        in (ap (λ (x : Kind). Some (x, Stage.Given q)) same ∙ ap (λ (x : Datum). Some (k, Stage.Given x)) at, refl)
    go true true Stage.Failed e = absurd (cc)
    go true false Stage.Sent e = absurd (cc)
    go true false Stage.Received e = absurd (cc)
    go true false (Stage.Given q) e = let same : j ≡ k = cc in let at : q ≡ p = cc
        in (ap (λ (x : Kind). Some (x, Stage.Given q)) same ∙ ap (λ (x : Datum). Some (k, Stage.Given x)) at, refl)
    go true false Stage.Failed e = absurd (cc)
    go false a Stage.Sent e = absurd (cc)
    go false a Stage.Received e = absurd (cc)
    go false a (Stage.Given q) e = absurd (cc)
    go false a Stage.Failed e = absurd (cc)

given_all : (s : Standing) (b : Bool) (k : Kind) (p : Datum) → (s ≡ Some (k, Stage.Given p)) × (b ≡ true)
    → effect_under s b Mark.Done ≡ Some (Effect.Count k (Some p))
given_all s b k p h = ap (λ (x : Standing). effect_under x b Mark.Done) h.0
    ∙ (ap (λ (x : Bool). effect_under (Some (k, Stage.Given p)) x Mark.Done) h.1 ∙ go (asks_data k))
  where
    go : (a : Bool) → effect_of_verdict k (judged_done true a (Stage.Given p)) ≡ Some (Effect.Count k (Some p))
    go true = refl
    go false = refl

-- a command that has failed
closed_only : (s : Standing) (b : Bool) → effect_under s b Mark.Done ≡ Some Effect.Quiet → (k : Kind) × (s ≡ Some (k, Stage.Failed))
closed_only None b e = absurd (cc)
closed_only (Some (j, s)) b e = go b (asks_data j) s e
  where
    go : (b a : Bool) (s : Stage) → effect_of_verdict j (judged_done b a s) ≡ Some Effect.Quiet → (k : Kind)
        × (◌≡◌ {A = Standing} (Some (j, s)) (Some (k, Stage.Failed)))
    go true true Stage.Sent e = absurd (cc)
    go true true Stage.Received e = absurd (cc)
    go true true (Stage.Given q) e = absurd (cc)
    go true true Stage.Failed e = (j, refl)
    go true false Stage.Sent e = absurd (cc)
    go true false Stage.Received e = absurd (cc)
    go true false (Stage.Given q) e = absurd (cc)
    go true false Stage.Failed e = (j, refl)
    go false a Stage.Sent e = absurd (cc)
    go false a Stage.Received e = absurd (cc)
    go false a (Stage.Given q) e = absurd (cc)
    go false a Stage.Failed e = (j, refl)

closed_all : (s : Standing) (b : Bool) → (k : Kind) × (s ≡ Some (k, Stage.Failed)) → effect_under s b Mark.Done ≡ Some Effect.Quiet
closed_all s b h = ap (λ (x : Standing). effect_under x b Mark.Done) h.1 ∙ go b (asks_data h.0)
  where
    go : (b a : Bool) → effect_of_verdict h.0 (judged_done b a Stage.Failed) ≡ Some Effect.Quiet
    go true true = refl
    go true false = refl
    go false a = refl

-- a command without its data
unanswered_due : (s : Standing) (b : Bool) → (refusal_under s b Mark.Done ≡ Some Cause.NoData) ↔ (Asks s Stage.Received × (b ≡ true))
unanswered_due s b = (only s, all)
  where
    only : (s : Standing) → refusal_under s b Mark.Done ≡ Some Cause.NoData → Asks s Stage.Received × (b ≡ true)
    only None e = absurd (cc)
    only (Some (k, s)) e = go b (asks_data k) refl s e
      where
        go : (b a : Bool) → asks_data k ≡ a → (s : Stage) → refusal_of (judged_done b a s) ≡ Some Cause.NoData
            → Asks (Some (k, s)) Stage.Received × (b ≡ true)
        go true true is Stage.Sent e = absurd (cc)
        go true true is Stage.Received e = ((k, is, refl), refl)
        go true true is (Stage.Given q) e = absurd (cc)
        go true true is Stage.Failed e = absurd (cc)
        go true false is Stage.Sent e = absurd (cc)
        go true false is Stage.Received e = absurd (cc)
        go true false is (Stage.Given q) e = absurd (cc)
        go true false is Stage.Failed e = absurd (cc)
        go false a is Stage.Sent e = absurd (cc)
        go false a is Stage.Received e = absurd (cc)
        go false a is (Stage.Given q) e = absurd (cc)
        go false a is Stage.Failed e = absurd (cc)

    all : Asks s Stage.Received × (b ≡ true) → refusal_under s b Mark.Done ≡ Some Cause.NoData
    all h = ap (λ (x : Standing). refusal_under x b Mark.Done) h.0.2
        ∙ (ap (λ (x : Bool). refusal_of (judged_done b x Stage.Received)) h.0.1
        ∙ ap (λ (x : Bool). refusal_of (judged_done x true Stage.Received)) h.1)

done_named : (s : Standing) (b : Bool) (why : Cause) → refusal_under s b Mark.Done ≡ Some why
    → (fault_for (Some why) ≡ TagFault.UnknownTag) ⊎ (fault_for (Some why) ≡ TagFault.OutOfOrder) ⊎ (fault_for (Some why) ≡ TagFault.NoData)
done_named None b why e = inl (ap fault_for (sym e))
done_named (Some (k, s)) b why e = named_two why _ _ (done_causes b (asks_data k) s why e)

-- ---- what a call knows of its answer

abbrev Ends : OpenValue → Tag → Result Ended TagFault → Type 0
Ends o t (Ok x) = effect_under (standing t o) (is_next t o) Mark.Done ≡ Some (effect_of x)
Ends o t (Err f) = IsSaid (refusal_under (standing t o) (is_next t o) Mark.Done) (cause_of f)

ends_agrees : (o : OpenValue) (t : Tag) (r : Result Ended TagFault) → Ends o t r → Agrees o t Mark.Done r
ends_agrees o t (Ok x) h = effect_taken (standing t o) (is_next t o) Mark.Done (effect_of x) h
ends_agrees o t (Err f) h = h

ended_is : (x : Ended) (k : Kind) (given : Option Datum) → effect_of x ≡ Effect.Count k given → x ≡ Ended.Counted k given
ended_is (Ended.Counted j other) k given e =
    let same : j ≡ k = cc in let at : other ≡ given = cc in ap (λ (i : Kind). Ended.Counted i other) same
    ∙ ap (λ (q : Option Datum). Ended.Counted k q) at
ended_is Ended.Closed k given e = absurd (cc)

closed_is : (x : Ended) → effect_of x ≡ Effect.Quiet → x ≡ Ended.Closed
closed_is (Ended.Counted j other) e = absurd (cc)
closed_is Ended.Closed e = refl

said_where_none : (due c : Option Cause) → IsSaid due c → due ≡ None → ⊥
said_where_none due None h none = h
said_where_none due (Some why) h none = none_some why due h none

-- this end exactly where this effect is due
end_exactly : (o : OpenValue) (t : Tag) (r : Result Ended TagFault) (x : Ended) → ((y : Ended) → effect_of y ≡ effect_of x → y ≡ x)
    → Ends o t r
    → (r ≡ Ok x) ↔ (effect_under (standing t o) (is_next t o) Mark.Done ≡ Some (effect_of x))
end_exactly o t (Ok y) x only h = (
  λ e. h ∙ ap (λ (z : Ended). Some (effect_of z)) (same e),
  λ e. ap (λ (z : Ended). Ok z) (only y (effects (sym h ∙ e))),
)
  where
    same : ◌≡◌ {A = Result Ended TagFault} (Ok y) (Ok x) → y ≡ x
    same e = cc

    effects : ◌≡◌ {A = Option Effect} (Some (effect_of y)) (Some (effect_of x)) → effect_of y ≡ effect_of x
    effects e = cc
end_exactly o t (Err f) x only h = (
  λ e. absurd (apart e),
  λ e. absurd
      (said_where_none _ (cause_of f) h (effect_taken (standing t o) (is_next t o) Mark.Done (effect_of x) e)),
)
  where
    apart : ◌≡◌ {A = Result Ended TagFault} (Err f) (Ok x) → ⊥
    apart e = cc

counted_exactly : (o : OpenValue) (t : Tag) (r : Result Ended TagFault) → Ends o t r → (k : Kind) (given : Option Datum)
    → (r ≡ Ok (Ended.Counted k given)) ↔ CountsAs t o k given
counted_exactly o t r h k None = compose (end_exactly o t r (Ended.Counted k None) (λ y. ended_is y k None) h) (
  λ e. let c = plain_only (standing t o) (is_next t o) k e in (c.0, c.1, next_only t o c.2),
  λ c. plain_all (standing t o) (is_next t o) k (c.0, c.1, next_all t o c.2),
)
counted_exactly o t r h k (Some p) = compose (end_exactly o t r (Ended.Counted k (Some p)) (λ y. ended_is y k (Some p)) h) (
  λ e. let c = given_only (standing t o) (is_next t o) k p e in (c.0, next_only t o c.1),
  λ c. given_all (standing t o) (is_next t o) k p (c.0, next_all t o c.1),
)

closed_exactly : (o : OpenValue) (t : Tag) (r : Result Ended TagFault) → Ends o t r → (r ≡ Ok Ended.Closed) ↔ HasFailed t o
closed_exactly o t r h = compose (end_exactly o t r Ended.Closed closed_is h)
    (λ e. closed_only (standing t o) (is_next t o) e, λ e. closed_all (standing t o) (is_next t o) e)

no_data_exactly : (o : OpenValue) (t : Tag) (r : Result Ended TagFault) → Ends o t r → IsErrOf r TagFault.NoData ↔ AwaitsData t o
no_data_exactly o t r h = compose (err_exactly r _ Cause.NoData TagFault.NoData refl (ends_agrees o t r h))
    (compose (unanswered_due (standing t o) (is_next t o)) (next_iff t o (Asks (standing t o) Stage.Received)))

end_named : (o : OpenValue) (t : Tag) (r : Result Ended TagFault) → Ends o t r
    → IfErr r (λ f. (f ≡ TagFault.UnknownTag) ⊎ (f ≡ TagFault.OutOfOrder) ⊎ (f ≡ TagFault.NoData))
end_named o t r h = named_by r _ (λ f. (f ≡ TagFault.UnknownTag) ⊎ (f ≡ TagFault.OutOfOrder)
    ⊎ (f ≡ TagFault.NoData)) (ends_agrees o t r h) (done_named (standing t o) (is_next t o))

ending : (o : OpenValue) (t : Tag) (r : Result Ended TagFault) → Ends o t r → IsEnding t o r
ending o t r h = record {
  counted = counted_exactly o t r h;
  closed = closed_exactly o t r h;
  unknown = unknown_exactly o t Mark.Done r (ends_agrees o t r h);
  no_data = no_data_exactly o t r h;
  named = end_named o t r h;
}

-- from what is known of the list of one sort of tags
ends_standard : (o : OpenValue) (failed : Bool) (hs : List OpenCommand) (t : Tag) (n : ℕ) (r : Result Ended TagFault) → t ≡ Std n
    → failed ≡ o.failed → hs ≡ o.standard
    → IfOk r (λ x. effect_heard (heard_in (not failed) hs t Mark.Done) ≡ Some (effect_of x))
    → IfErr r (λ f. IsRefused (heard_in (not failed) hs t Mark.Done) (cause_of f)) → Ends o t r
ends_standard o failed hs t n (Ok x) is bad held ok refused =
    subst (λ (u : Tag). Ends o u (Ok x)) (sym is)
    (sym (effect_is (not o.failed) o.standard (Std n) Mark.Done)
    ∙ (ap (λ (f : Bool). effect_heard (heard_in (not f) o.standard (Std n) Mark.Done)) (sym bad)
    ∙ (ap (λ (l : List OpenCommand). effect_heard (heard_in (not failed) l (Std n) Mark.Done)) (sym held)
    ∙ (ap (λ (u : Tag). effect_heard (heard_in (not failed) hs u Mark.Done)) (sym is) ∙ ok))))
ends_standard o failed hs t n (Err f) is bad held ok refused =
    fits_err Ended o t Mark.Done f (refused_standard o hs t n Mark.Done (cause_of f) is held
    (subst (λ (b : Bool). IsRefused (heard_in (not b) hs t Mark.Done) (cause_of f)) bad refused))

ends_event : (o : OpenValue) (hs : List OpenCommand) (t : Tag) (n : ℕ) (r : Result Ended TagFault) → t ≡ Event n → hs ≡ o.event
    → IfOk r (λ x. effect_heard (heard_in true hs t Mark.Done) ≡ Some (effect_of x))
    → IfErr r (λ f. IsRefused (heard_in true hs t Mark.Done) (cause_of f)) → Ends o t r
ends_event o hs t n (Ok x) is held ok refused =
    subst (λ (u : Tag). Ends o u (Ok x)) (sym is)
    (sym (effect_is true o.event (Event n) Mark.Done)
    ∙ (ap (λ (l : List OpenCommand). effect_heard (heard_in true l (Event n) Mark.Done)) (sym held)
    ∙ (ap (λ (u : Tag). effect_heard (heard_in true hs u Mark.Done)) (sym is) ∙ ok)))
ends_event o hs t n (Err f) is held ok refused = fits_err Ended o t Mark.Done f
    (refused_event o hs t n Mark.Done (cause_of f) is held refused)

-- likewise for the answer to an end, from the effect alone
pub ending_standard : {o view : OpenValue} {t : Tag} {n : ℕ} {r : Result Ended TagFault} {hs : List OpenCommand} → t ≡ Std n → view ≡ o
    → hs ≡ view.standard → IfOk r (λ x. effect_heard (heard_in (not view.failed) hs t Mark.Done) ≡ Some (effect_of x))
    → IfErr r (λ f. IsRefused (heard_in (not view.failed) hs t Mark.Done) (cause_of f)) → IsEnding t o r
ending_standard {o} {view} {t} {n} {r} {hs} is seen held ok refused = ending o t r
    (ends_standard o view.failed hs t n r is (ap (λ (x : OpenValue). x.failed) seen)
    (held ∙ ap (λ (x : OpenValue). x.standard) seen) ok refused)

pub ending_event : {o view : OpenValue} {t : Tag} {n : ℕ} {r : Result Ended TagFault} {hs : List OpenCommand} → t ≡ Event n → view ≡ o
    → hs ≡ view.event → IfOk r (λ x. effect_heard (heard_in true hs t Mark.Done) ≡ Some (effect_of x))
    → IfErr r (λ f. IsRefused (heard_in true hs t Mark.Done) (cause_of f)) → IsEnding t o r
ending_event {o} {view} {t} {n} {r} {hs} is seen held ok refused = ending o t r
    (ends_event o hs t n r is (held ∙ ap (λ (x : OpenValue). x.event) seen) ok refused)

-- ---- receipts and errors

unread_due : (s : Standing) (b : Bool) → (refusal_under s b Mark.Ack ≡ None) ↔ ((k : Kind) × (s ≡ Some (k, Stage.Sent)))
unread_due s b = (only s, λ h. ap (λ (x : Standing). refusal_under x b Mark.Ack) h.1)
  where
    only : (s : Standing) → refusal_under s b Mark.Ack ≡ None → (k : Kind) × (s ≡ Some (k, Stage.Sent))
    only None e = absurd (cc)
    only (Some (k, Stage.Sent)) e = (k, refl)
    only (Some (k, Stage.Received)) e = absurd (cc)
    only (Some (k, Stage.Given q)) e = absurd (cc)
    only (Some (k, Stage.Failed)) e = absurd (cc)

ack_named : (s : Standing) (b : Bool) (why : Cause) → refusal_under s b Mark.Ack ≡ Some why → (fault_for (Some why) ≡ TagFault.UnknownTag)
    ⊎ (fault_for (Some why) ≡ TagFault.OutOfOrder)
ack_named None b why e = inl (ap fault_for (sym e))
ack_named (Some (k, s)) b why e = inr (ap (λ (w : Cause). fault_for (Some w)) (ack_causes s why e))

error_named : (s : Standing) (b : Bool) (why : Cause) → refusal_under s b Mark.Error ≡ Some why → fault_for (Some why) ≡ TagFault.UnknownTag
error_named None b why e = ap fault_for (sym e)
error_named (Some (k, s)) b why e = absurd (error_causes s why e)

pub unread_exactly : {T : Type 0} (o : OpenValue) (t : Tag) (r : Result T TagFault) → Agrees o t Mark.Ack r → IsOk r ↔ IsUnread t o
unread_exactly o t r h = compose (ok_exactly r _ h) (unread_due (standing t o) (is_next t o))

pub receipt_named : {T : Type 0} (o : OpenValue) (t : Tag) (r : Result T TagFault) → Agrees o t Mark.Ack r
    → IfErr r (λ f. (f ≡ TagFault.UnknownTag) ⊎ (f ≡ TagFault.OutOfOrder))
receipt_named o t r h = named_by r _ (λ f. (f ≡ TagFault.UnknownTag) ⊎ (f ≡ TagFault.OutOfOrder)) h (ack_named (standing t o) (is_next t o))

pub error_named_by : {T : Type 0} (o : OpenValue) (t : Tag) (r : Result T TagFault) → Agrees o t Mark.Error r
    → IfErr r (λ f. f ≡ TagFault.UnknownTag)
error_named_by o t r h = named_by r _ (λ f. f ≡ TagFault.UnknownTag) h (error_named (standing t o) (is_next t o))

pub refused_unknown : (T : Type 0) (o : OpenValue) (t : Tag) (m : Mark) (f : TagFault) → IsRefused (heard o t m) (cause_of f)
    → IsErrOf {T = T} (Err f) TagFault.UnknownTag ↔ (kind_under t o ≡ None)
refused_unknown T o t m f h = unknown_exactly {T = T} o t m (Err f) (fits_err T o t m f h)

pub refused_error : (o : OpenValue) (t : Tag) (f : TagFault) → IsRefused (heard o t Mark.Error) (cause_of f) → f ≡ TagFault.UnknownTag
refused_error o t f h = error_named_by {T = Bool} o t (Err f) (fits_err Bool o t Mark.Error f h)

pub taken_standard : (T : Type 0) (x : T) (o : OpenValue) (hs gs : List OpenCommand) (t : Tag) (n : ℕ) (m : Mark) (e : Effect) → t ≡ Std n
    → hs ≡ o.standard
    → heard_in (not o.failed) hs t m ≡ Ok (gs, e) → IsErrOf {T = T} (Ok x) TagFault.UnknownTag ↔ (kind_under t o ≡ None)
taken_standard T x o hs gs t n m e is held ok = unknown_exactly {T = T} o t m (Ok x)
    (agrees_standard {T = T} o o.failed hs gs t n m (λ _. e) (Ok x) is refl held ok tt)

pub taken_event : (T : Type 0) (x : T) (o : OpenValue) (hs gs : List OpenCommand) (t : Tag) (n : ℕ) (m : Mark) (e : Effect) → t ≡ Event n
    → hs ≡ o.event
    → heard_in true hs t m ≡ Ok (gs, e) → IsErrOf {T = T} (Ok x) TagFault.UnknownTag ↔ (kind_under t o ≡ None)
taken_event T x o hs gs t n m e is held ok = unknown_exactly {T = T} o t m (Ok x)
    (agrees_event {T = T} o hs gs t n m (λ _. e) (Ok x) is held ok tt)
