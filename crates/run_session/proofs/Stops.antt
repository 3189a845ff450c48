-- What an answer that stops the run, or any other, makes of the client.
use Rattle.run_session.proofs.Names.{◌∙◌, ◌≡◌, ◌⊎◌, Abort, ap, begins, behind_call, Bool, calls, ClientEnd, done_by, Err, false, GoesOn, IfErr, inl, inr}
use Rattle.run_session.proofs.Names.{cond, HasReported, Ran, Reports, false≢true, IsKept, IsRun, Option, IsRunOf, Keeps, Leave, List, None, of_file, Ok, OnErr, OnOk, Outside, Pair, possible, refl, Reply}
use Rattle.run_session.proofs.Names.{Result, Stage, State, subst, sym, true, writes, Act, ℕ}
use Rattle.run_session.proofs.Names.{anything, Book, KeepsNoting, nothing}
use Rattle.std.specs.Prelude.{is_err}
use Rattle.run_session.specs.Records.{answered, is_noting, is_stop, IsLater, IsLaterNoting, IsShort, IsUnmoved, left, noted_if, noted_now, Origin, stopped, Stops, StopsOn, turned, Turns, Write}
use Rattle.run_session.proofs.Filing.{by_write, moved, moved_on, same_file, weak}
use Rattle.client_core.specs.Refusals.{IsSendRefused}
use Rattle.client_core.specs.declared.faults.ClientFault.{ClientFault}
use Rattle.run_session.proofs.Reporting.{stays_reported}
use Rattle.run_session.specs.Errors.{Talk, noted_by, with_written}
use Rattle.protocol_model.specs.Client.{client_aborted, may_abort}
use Rattle.run_session.specs.Records.{forgets}
use Rattle.run_session.specs.Evidence.{Course}

-- ---- later ones

pub later : (s t : State) → Keeps s t → IsLater s t
later s t keeps = λ w run. let now = keeps w run in record { ran = now.ran; reported = now.reported; same = refl }

pub answered_later : (s t : State) (reply : Reply) → Keeps (answered s reply) t → IsLater s t
answered_later s t reply keeps = λ w run.
    let now = keeps (record w { marks = (answered s reply).reports.marks }) (record { ran = run.ran; reported = run.reported; same = refl }) in
    record { ran = now.ran; reported = now.reported; same = refl }

later_noting : (s t : State) → KeepsNoting s t → IsLaterNoting s t
later_noting s t keeps = λ w on run. let now = keeps w on run in record { ran = now.ran; reported = now.reported; same = refl }

left_later : (x m t : State) → IsLaterNoting x m → Keeps (left m) t → IsLaterNoting x t
left_later x m t is keeps = λ w on run.
    let at = is w on run in
    let now = keeps (record w { marks = m.reports.marks })
    (record { ran = calls m.book.pauses m.pair m.talk m.talk Leave at.ran tt tt refl; reported = at.reported; same = refl }) in
    record { ran = now.ran; reported = now.reported; same = refl }

-- ---- an answer

same_book : (b : Bool) (s : State) → (stopped b s).book ≡ s.book
same_book true s = refl
same_book false s = refl

-- one that is no time of notes
unnoted : (b : Bool) (s : State) (reply : Reply) → is_stop s.stage reply ≡ b → is_noting s.stage ≡ false → turned s reply ≡ stopped b s
unnoted b s reply at quiet = ap (λ (x : Bool). noted_if x reply (stopped (is_stop s.stage reply) s)) quiet ∙ ap (λ (x : Bool). stopped x s) at

turns : {A E : Type 0} (r : Result A E) (b : Bool) (s t : State) (reply : Reply) → is_stop s.stage reply ≡ b → is_noting s.stage ≡ false
    → OnOk r (IsLater (stopped b s) t) → OnErr r (IsLater (stopped b s) t ⊎ IsUnmoved s t) → t.book.noted ≡ s.book.noted → StopsOn r s reply t
turns (Ok a) b s t reply at quiet ran short same = subst (λ (x : State). Turns x t) (sym (unnoted b s reply at quiet))
    (ran, same ∙ sym (ap (λ (x : Book). x.noted) (same_book b s)))
turns (Err e) b s t reply at quiet ran (inl is) same =
    inl (λ w on run. subst (λ (x : Bool). IsLater (stopped x s) t) (sym at) is w run)
turns (Err e) b s t reply at quiet ran (inr is) same = inr is

pub on_ok : {A E X : Type 0} (r : Result A E) → X → OnOk r X
on_ok (Ok a) x = x
on_ok (Err e) x = tt

on_err : {A E X : Type 0} (r : Result A E) → X → OnErr r X
on_err (Ok a) x = tt
on_err (Err e) x = x

-- one that does not stop the run either
abbrev pub IsStill : Reply → Stage → Type 0
IsStill reply st = (is_stop st reply ≡ false) × (is_noting st ≡ false)

pub still_noted : {A E : Type 0} (r : Result A E) (v s t : State) (reply : Reply) → v ≡ s → IsStill reply v.stage → IsLater s t
    → t.book.noted ≡ s.book.noted → StopsOn r s reply t
still_noted r v s t reply is other after same =
    let at : IsStill reply s.stage = subst (λ (x : State). IsStill reply x.stage) is other in
    turns r false s t reply at.0 at.1 (on_ok r after) (on_err r (inl after)) same

pub still : {A E : Type 0} (r : Result A E) (v s t : State) (reply : Reply) → v ≡ s → IsStill reply v.stage → IsLater s t → t.book ≡ s.book
    → StopsOn r s reply t
still r v s t reply is other after same = still_noted r v s t reply is other after (ap (λ (b : Book). b.noted) same)

pub is_still : (reply : Reply) (st a : Stage) → IsStill reply a → st ≡ a → IsStill reply st
is_still reply st a h e = subst (IsStill reply) (sym e) h

pub or_still : {X : Type 0} (reply : Reply) (st a : Stage) → IsStill reply a → (X → IsStill reply st) → (st ≡ a) ⊎ X → IsStill reply st
or_still reply st a h f (inl e) = is_still reply st a h e
or_still reply st a h f (inr x) = f x

-- one that may stop it
pub may_stop : {A E : Type 0} (r : Result A E) (b : Bool) (v s t : State) (reply : Reply) → v ≡ s → is_stop v.stage reply ≡ b → is_noting v.stage ≡ false
    → OnOk r (Keeps (stopped b s) t) → OnErr r (IsShort b s t) → of_file t.book ≡ of_file s.book → StopsOn r s reply t
may_stop r b v s t reply is at quiet ran short same =
    turns r b s t reply (ap (λ (x : State). is_stop x.stage reply) (sym is) ∙ at) (ap (λ (x : State). is_noting x.stage) (sym is) ∙ quiet)
    (if_ok r ran) (if_short r short) (ap (λ (b : Book). b.noted) same)
  where
    if_ok : {A E : Type 0} (r : Result A E) → OnOk r (Keeps (stopped b s) t) → OnOk r (IsLater (stopped b s) t)
    if_ok (Ok a) ran = later (stopped b s) t ran
    if_ok (Err e) ran = tt

    if_short : {A E : Type 0} (r : Result A E) → OnErr r (IsShort b s t) → OnErr r (IsLater (stopped b s) t ⊎ IsUnmoved s t)
    if_short (Ok a) short = tt
    if_short (Err e) (inl runs) = inl (later (stopped b s) t runs)
    if_short (Err e) (inr same) = inr same

-- the time of notes
noting_turns : (s : State) (reply : Reply) → s.stage ≡ Stage.Noting → turned s reply ≡ noted_now s reply
noting_turns s reply at = ap (λ (st : Stage). noted_if (is_noting st) reply (stopped (is_stop st reply) s)) at

pub notes_turn : {A E : Type 0} (r : Result A E) (v s t : State) (reply : Reply) → v ≡ s → v.stage ≡ Stage.Noting → OnOk r (Keeps (noted_now s reply) t)
    → OnOk r (t.book.noted ≡ (noted_now s reply).book.noted) → KeepsNoting s t → StopsOn r s reply t
notes_turn r v s t reply is at exact passes ran = go r exact passes
  where
    here : s.stage ≡ Stage.Noting
    here = ap (λ (x : State). x.stage) (sym is) ∙ at

    go : {A E : Type 0} (r : Result A E) → OnOk r (Keeps (noted_now s reply) t) → OnOk r (t.book.noted ≡ (noted_now s reply).book.noted)
        → StopsOn r s reply t
    go (Ok a) exact passes = subst (λ (x : State). Turns x t) (sym (noting_turns s reply here)) (later (noted_now s reply) t exact, passes)
    go (Err e) exact passes = inl (subst (λ (st : Stage). IsLaterNoting (stopped (is_stop st reply) s) t) (sym here) (later_noting s t ran))

pub notes_go : (v s t : State) (reply : Reply) → v ≡ s → v.stage ≡ Stage.Noting → KeepsNoting s t → t.book ≡ record (s.book) { noted = t.book.noted }
    → GoesOn s reply t
notes_go v s t reply is at keeps same = moved_on s t reply (ap (λ (x : State). writes x.stage) (sym is) ∙ ap writes at) keeps (record {
  lost = ap (λ (b : Book). b.lost) same;
  filed = ap (λ (b : Book). b.filed) same;
  settled = ap (λ (b : Book). b.settled) same;
})

-- a run that continues after the client could abort
pub ran_on : {A E : Type 0} (r : Result A E) (v s m t : State) → v ≡ s → Keeps (stopped true v) m → Keeps m t → OnOk r (Keeps (stopped true s) t)
ran_on (Ok a) v s m t is first more = λ w run. more w (first w (subst (λ (x : State). IsRunOf w (stopped true x)) (sym is) run))
ran_on (Err e) v s m t is first more = tt

-- it is in a state in which it cannot abort
pub ran_same : {A E : Type 0} (r : Result A E) (v s t : State) → v ≡ s → may_abort v.pair.end.client.state ≡ false → Keeps v t
    → OnOk r (Keeps (stopped true s) t)
ran_same (Ok a) v s t is cannot keeps = λ w run. keeps w (subst (λ (x : State). IsRunOf w x) (unstopped v cannot)
    (subst (λ (x : State). IsRunOf w (stopped true x)) (sym is) run))
  where
    unstopped : (s : State) → may_abort s.pair.end.client.state ≡ false → stopped true s ≡ s
    unstopped s never = ap (λ (b : Bool). record s {
      pair = record (s.pair) { end = cond b (done_by Abort s.pair.end) s.pair.end };
      talk = record (s.talk) { sent = cond b (with_written s.talk.sent (client_aborted s.pair.end.client).lines) s.talk.sent };
    }) never
ran_same (Err e) v s t is cannot keeps = tt

pub ran_short : {A E : Type 0} (r : Result A E) (v s m t : State) → v ≡ s → Keeps (stopped true v) m → Keeps m t → OnErr r (IsShort true s t)
ran_short (Ok a) v s m t is first more = tt
ran_short (Err e) v s m t is first more = inl (λ w run. more w (first w (subst (λ (x : State). IsRunOf w (stopped true x)) (sym is) run)))

pub is_short : {A E : Type 0} (r : Result A E) (k : Course) (v s t : State) → v ≡ s → IsShort true (record v { course = k }) t
    → OnErr r (IsShort true s t)
is_short (Ok a) k v s t is short = tt
is_short (Err e) k v s t is short = go (subst (λ (x : State). IsShort true (record x { course = k }) t) is short)
  where
    go : IsShort true (record s { course = k }) t → IsShort true s t
    go (inl keeps) = inl keeps
    go (inr same) = inr same

-- what is kept of a client is kept of one that aborts
kept_stopped : (b : Bool) (first : Pair) (before : List (ℕ × Act)) (s : State) (o : Outside) → IsKept first before s o → IsKept first before (stopped b s) o
kept_stopped false first before s o k = k
kept_stopped true first before s o k = record {
  begun = k.begun;
  ran = record {
    ran = calls s.book.pauses s.pair s.talk (stopped true s).talk Abort k.ran.ran tt refl refl;
    reported = stays_reported {b = anything} before s.book.pauses s.pair (stopped true s).pair s.talk (stopped true s).talk s.reports
        (calls s.book.pauses s.pair s.talk (stopped true s).talk Abort (begins s.book.pauses) tt refl refl) k.ran.reported;
    same = k.ran.same;
  };
  front = k.front;
  filed = k.filed;
  within = k.within;
  safe = k.safe;
}

keeps_go : (s m t : State) (reply : Reply) → writes s.stage ≡ None
    → ((first : Pair) (before : List (ℕ × Act)) (o : Outside) → IsKept first before s o → IsKept first before m o) → Keeps m t
    → of_file t.book ≡ of_file m.book → GoesOn s reply t
keeps_go s m t reply quiet kept keeps same = λ first before o n k.
    subst (λ (w : Option Write). IsKept first before t (by_write w n s reply o)) (sym quiet)
    (moved first before m t o (weak m t keeps) (same_file m t same) (kept first before o k))

goes : (b : Bool) (s t : State) (reply : Reply) → writes s.stage ≡ None → Keeps (stopped b s) t → of_file t.book ≡ of_file s.book → GoesOn s reply t
goes false s t reply quiet keeps same = keeps_go s s t reply quiet (λ first before o k. k) keeps same
goes true s t reply quiet keeps same = keeps_go s (stopped true s) t reply quiet (λ first before o k. kept_stopped true first before s o k) keeps same

pub runs_go : {A E : Type 0} (r : Result A E) (b : Bool) (v s t : State) (reply : Reply) → v ≡ s → writes v.stage ≡ None
    → OnOk r (Keeps (stopped b s) t) → OnErr r (IsShort b s t) → of_file t.book ≡ of_file s.book → GoesOn s reply t
runs_go r b v s t reply is quiet ran short same = go r ran short
  where
    at : writes s.stage ≡ None
    at = ap (λ (x : State). writes x.stage) (sym is) ∙ quiet

    go : {A E : Type 0} (r : Result A E) → OnOk r (Keeps (stopped b s) t) → OnErr r (IsShort b s t) → GoesOn s reply t
    go (Ok a) ran short = goes b s t reply at ran same
    go (Err e) ran (inl runs) = goes b s t reply at runs same
    go (Err e) ran (inr none) = goes false s t reply at (λ w run. subst (λ (x : State). IsRunOf w x) (sym none) run) same

-- ---- the client aborts

-- what its call leaves of it
abbrev pub Aborted : {A : Type 0} → Result A ClientFault → ClientEnd → ClientEnd → Type 0
Aborted (Ok a) e f = f ≡ behind_call Abort e
Aborted (Err ClientFault.NotNow) e f = f ≡ behind_call Abort e
Aborted (Err (ClientFault.Faulted cause)) e f = f ≡ behind_call Abort e
Aborted (Err ClientFault.Memory) e f = f ≡ e

made : (b : Bool) (e g f : ClientEnd) → b ≡ true → f ≡ g → f ≡ cond b g e
made true e g f can is = is
made false e g f can is = absurd (false≢true can)

unmade : (b : Bool) (e g f : ClientEnd) → b ≡ false → f ≡ e → f ≡ cond b g e
unmade true e g f cannot is = absurd (false≢true (sym cannot))
unmade false e g f cannot is = is

pub aborted : {A : Type 0} (r : Result A ClientFault) (e f : ClientEnd) → OnOk r (f ≡ done_by Abort e) → OnOk r (possible Abort e ≡ true)
    → IfErr r (λ why. IsSendRefused (possible Abort e) e f (done_by Abort e) why) → Aborted r e f
aborted (Ok a) e f done can refused = made (possible Abort e) e (done_by Abort e) f can done
aborted (Err ClientFault.NotNow) e f done can refused = unmade (possible Abort e) e (done_by Abort e) f refused.2 refused.0
aborted (Err (ClientFault.Faulted cause)) e f done can (inl refused) = unmade (possible Abort e) e (done_by Abort e) f refused.0 refused.1
aborted (Err (ClientFault.Faulted cause)) e f done can (inr refused) = made (possible Abort e) e (done_by Abort e) f refused.0 refused.1
aborted (Err ClientFault.Memory) e f done can refused = refused

pub aborted_keeps : (v s : State) (f : ClientEnd) → v ≡ s → f ≡ behind_call Abort v.pair.end → (w : Origin) → IsRunOf w (stopped true s)
    → IsRun w v.book.pauses (record { end = f; recording = v.pair.recording }) (noted_by Abort v.pair.end v.talk) v.reports
aborted_keeps v s f is made w run =
    subst (λ (x : ClientEnd). IsRun w v.book.pauses (record { end = x; recording = v.pair.recording }) (noted_by Abort v.pair.end v.talk) v.reports) (sym made)
    (subst (λ (x : State). IsRunOf w (stopped true x)) (sym is) run)

-- what is noted of it, or not
pub noted_keeps : (w : Origin) (n t : State) (u : Talk) → t ≡ n → n.talk ≡ u → IsRun w n.book.pauses n.pair u n.reports → IsRunOf w t
noted_keeps w n t u same is run = subst (λ (x : State). IsRunOf w x) (sym same)
    (subst (λ (x : Talk). IsRun w n.book.pauses n.pair x n.reports) (sym is) run)

pub forgot_keeps : (w : Origin) (n t : State) (u : Talk) → t ≡ n → n.talk.lost ≡ true → IsRun w n.book.pauses n.pair u n.reports → IsRunOf w t
forgot_keeps w n t u same lost run = subst (λ (x : State). IsRunOf w x) (sym same)
    (record { ran = forgets n.book.pauses n.pair u n.talk run.ran lost; reported = run.reported; same = run.same })

pub aborted_noted : {A E : Type 0} (r : Result A E) (s n t : State) (u : Talk) → t ≡ n → OnOk r (n.talk ≡ u)
    → ((w : Origin) → IsRunOf w (stopped true s) → IsRun w n.book.pauses n.pair u n.reports) → OnOk r (Keeps (stopped true s) t)
aborted_noted (Ok a) s n t u same is keeps = λ w run. noted_keeps w n t u same is (keeps w run)
aborted_noted (Err e) s n t u same is keeps = tt

pub aborted_short : {A E : Type 0} (r : Result A E) (s n t : State) (u : Talk) → t ≡ n → OnErr r (n.talk.lost ≡ true)
    → ((w : Origin) → IsRunOf w (stopped true s) → IsRun w n.book.pauses n.pair u n.reports) → OnErr r (IsShort true s t)
aborted_short (Ok a) s n t u same lost keeps = tt
aborted_short (Err e) s n t u same lost keeps = inl (λ w run. forgot_keeps w n t u same lost (keeps w run))

pub same_talk : (w : Origin) (ps : List ℕ) (p : Pair) (t u : Talk) (r : Reports) → t ≡ u → IsRun w ps p u r → IsRun w ps p t r
same_talk w ps p t u r is run = subst (λ (x : Talk). IsRun w ps p x r) (sym is) run

-- ---- what that says

pub calm : (before : List (ℕ × Act)) (s t : State) → HasReported before s.pair s.reports → IsLater s t → Ran nothing s.pair s.talk t.book.pauses t.pair t.talk
calm before s t has is = (is (record { may = nothing; first = s.pair; begun = s.talk; before = before; marks = s.reports.marks })
    (record { ran = begins s.book.pauses; reported = has; same = refl })).ran

enough_memory : (s t : State) (reply : Reply) → t.book.spent ≡ false → Stops s reply t → Turns (turned s reply) t
enough_memory s t reply enough (inl is) = is
enough_memory s t reply enough (inr is) = absurd (false≢true (sym enough ∙ is.1))

pub with_memory : (b : Bool) (s t : State) (reply : Reply) → is_stop s.stage reply ≡ b → is_noting s.stage ≡ false → t.book.spent ≡ false
    → Stops s reply t → Turns (stopped b s) t
with_memory b s t reply at quiet enough stops =
    subst (λ (x : State). Turns x t) (unnoted b s reply at quiet) (enough_memory s t reply enough stops)

pub all_noted : (s t : State) (reply : Reply) → s.stage ≡ Stage.Noting → t.book.spent ≡ false → Stops s reply t → Turns (noted_now s reply) t
all_noted s t reply at enough stops =
    subst (λ (x : State). Turns x t) (noting_turns s reply at) (enough_memory s t reply enough stops)

-- ---- memory runs out

pub keeps_left : (s t : State) → Keeps (left s) t → Keeps s t
keeps_left s t keeps = λ w run. keeps w (record { ran = calls s.book.pauses s.pair s.talk s.talk Leave run.ran tt tt refl; reported = run.reported; same = run.same })

pub left_stops : {A E : Type 0} (r : Result A E) (s m t : State) (reply : Reply) → is_err r ≡ true → StopsOn r s reply m → Keeps (left m) t
    → t.book.spent ≡ true → Stops s reply t
left_stops (Ok a) s m t reply short stops keeps spent = absurd (false≢true short)
left_stops (Err e) s m t reply short (inl stops) keeps spent = inr (inl (left_later (stopped (is_stop s.stage reply) s) m t stops keeps), spent)
left_stops (Err e) s m t reply short (inr same) keeps spent =
    inr (inr (λ w on run. later (left s) t (subst (λ (x : State). Keeps (left x) t) same keeps) w run), spent)

pub ok_stops : {A E : Type 0} (r : Result A E) (s t : State) (reply : Reply) → is_err r ≡ false → StopsOn r s reply t → Stops s reply t
ok_stops (Ok a) s t reply done stops = inl stops
ok_stops (Err e) s t reply done stops = absurd (false≢true (sym done))
