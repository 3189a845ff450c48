-- A run that is over comes to its exit.
use Rattle.run_session.proofs.Names.{◌&&◌, ◌+◌, ◌-◌, ◌<◌, ◌≡◌, ◌≤◌, ◌⊎◌, ◌∙◌, ap, arith, Bool, cond, Err, false, false≢true, inl, inr, Ok, OnErr, OnOk, refl, Reply, Result}
use Rattle.run_session.proofs.Names.{Stage, State, subst, suc, sym, true, writes, ℕ}
use Rattle.run_session.proofs.Names.{Book, filed, filed_by, Growth, HasFollowed, IsAt, IsQuiet, is_some, length, List, None, not, Option, pace, Pace, Says, Some}
use Rattle.record_text.specs.Seals.{seal_of}
use Rattle.record_text.specs.Tellings.{Telling}
use Rattle.record_text.specs.declared.notes.Note.TheVariants.{Sealed}
use Rattle.run_session.specs.Ends.{After, due_steps, EndsWithin, FollowsOn, is_closing, is_following, is_recorded, IsNearer, IsStill, IsWithin, Nears, NearsOn}
use Rattle.run_session.specs.Ends.{none, one, OverWithin, place_of, short_left, spare_steps, steps_at, steps_left, steps_on, to_close, to_record, within}
use Rattle.run_session.specs.Evidence.{can_say, Notes}
use Rattle.run_session.specs.Records.{answered, closed, did, Going, is_at_end, is_done, is_due, is_joined, is_record, is_tried, marked, over, seal_if, time_of, with_due, with_marks, with_note}
use Rattle.std.proofs.Common.{rules}
use Rattle.std.specs.Prelude.{◌||◌, is_err, nat_lt}

-- ---- how many steps

pub due_most : (s : State) → due_steps s ≤ 6
due_most s = go (is_due s true)
  where
    go : (b : Bool) → cond b 6 0 ≤ 6
    go true = search arith
    go false = search arith

spare_most : (s : State) → spare_steps s ≤ 14
spare_most s = go s.book.spent
  where
    go : (b : Bool) → cond b 0 14 ≤ 14
    go true = search arith
    go false = search arith

short_few : (s : State) → short_left s < 22 + spare_steps s
short_few s = go s.book.spent
  where
    go : (b : Bool) → cond b 7 35 < 22 + cond b 0 14
    go true = search arith
    go false = search arith

following_many : (st : Stage) (s : State) → is_following st ≡ true → 22 + spare_steps s ≤ steps_on st s
following_many st s is = grind arith

following_most : (st : Stage) (s : State) → due_steps s ≤ 6 → spare_steps s ≤ 14 → steps_on st s + steps_at st (is_recorded s) s.looks ≤ 49
following_most st s due spare = grind arith

-- ---- after an answer

on_closing : {X : Type 0} (e f o : Bool) → (e ≡ true → X) → (f ≡ true → X) → (e || (f && o)) ≡ true → X
on_closing true f o end follow c = end refl
on_closing false true o end follow c = follow refl
on_closing false false o end follow c = absurd (false≢true c)

pub nears_on : {A E : Type 0} (r : Result A E) (s t : State) → is_err r ≡ false → (is_at_end s.stage ≡ true → NearsOn r s t)
    → (is_following s.stage ≡ true → is_closing s ≡ true → FollowsOn r s t) → Nears s t
nears_on (Ok a) s t done end follow = λ c. on_closing (is_at_end s.stage) (is_following s.stage) (over s) end (λ is. follow is c) c
nears_on (Err e) s t done end follow = absurd (false≢true (sym done))

pub of_ok : {A E X : Type 0} (r : Result A E) → is_err r ≡ false → OnOk r X → X
of_ok (Ok a) done x = x
of_ok (Err e) done x = absurd (false≢true (sym done))

short : (s t u : State) → (t.stage ≡ s.stage) × (1 < steps_left s) → is_at_end s.stage ≡ true → (is_at_end t.stage ≡ true → IsWithin 1 u) → IsNearer s u
short s t u n e within =
    let w : IsWithin 1 u = within (ap is_at_end n.0 ∙ e) in
    record { ending = IsWithin.ending w; fewer = inr (omega (arith, IsWithin.fewer w, n.1)) }

short_over : (s t u : State) → IsStill s t → is_following s.stage ≡ true → IsWithin (short_left t) u → IsNearer s u
short_over s t u still f w = record {
  ending = IsWithin.ending w;
  fewer = inr (omega (arith, IsWithin.fewer w, ap {B = ℕ} (λ (b : Bool). cond b 7 35) (IsStill.spent still), short_few s, following_many s.stage s f));
}

-- ---- while what was counted is kept

pub still_on : (s m t : State) → IsStill s m → IsStill m t → IsStill s t
still_on s m t a b = record { stage = b.stage ∙ a.stage; spent = b.spent ∙ a.spent; over = b.over ∙ a.over; course = b.course ∙ a.course }

at : (s : State) (a : Stage) (n : ℕ) → s.stage ≡ a → steps_on a s + steps_at a (is_recorded s) s.looks ≡ n → steps_left s ≡ n
at s a n e is = ap (λ (st : Stage). steps_on st s + steps_at st (is_recorded s) s.looks) e ∙ is

spare_same : (s m : State) → m.book.spent ≡ s.book.spent → spare_steps m ≡ spare_steps s
spare_same s m is = ap {B = ℕ} (λ (b : Bool). cond b 0 14) is

follows_on : {A E : Type 0} (r : Result A E) (s m t : State) → IsStill s m → EndsWithin (within 29 m) r m t → EndsWithin (35 + spare_steps s) r s t
follows_on (Ok a) s m t still w = record {
  within = record {
    ending = w.within.ending;
    fewer = omega (arith, IsWithin.fewer w.within, due_most m, spare_same s m still.spent);
  };
  course = w.course ∙ still.course;
}
follows_on (Err e) s m t still is = still_on s m t still is

pub follows_within : {A E : Type 0} (r : Result A E) (s m t : State) → IsStill s m → OverWithin (within 29 m) r m t
    → OverWithin (35 + spare_steps s) r s t
follows_within r s m t still f = λ o. follows_on r s m t still (f (still.over ∙ o))

pub ruleset follows = (still_on, follows_within)

place_most : (b : Book) (g : Growth) → place_of b g ≤ 26
place_most b g = go b.lost (nat_lt b.settled g.telling.counted.features) (nat_lt b.filed (length g.text))
  where
    go : (x y z : Bool) → cond x 24 (cond y 25 (cond z 26 24)) ≤ 26
    go true y z = search arith
    go false true z = search arith
    go false false true = search arith
    go false false false = search arith

raised : {A E : Type 0} (n k : ℕ) (r : Result A E) (s t : State) → n ≤ k → EndsWithin n r s t → EndsWithin k r s t
raised n k (Ok a) s t few w = record {
  within = record { ending = w.within.ending; fewer = omega (arith, IsWithin.fewer w.within, few) };
  course = w.course;
}
raised n k (Err e) s t few is = is

pub record_within : {A E : Type 0} (r : Result A E) (s t : State) → OverWithin (to_record s) r s t → OverWithin (within 28 s) r s t
record_within r s t f = λ o. raised (to_record s) (within 28 s) r s t (omega (arith, place_most s.book s.pair.recording)) (f o)

-- after an answer
pub nearer : {A E : Type 0} (n : ℕ) (r : Result A E) (s m t : State) → IsStill s m → n < steps_left s → EndsWithin n r m t → FollowsOn r s t
nearer n (Ok a) s m t still few w = record { ending = w.within.ending; fewer = inr (omega (arith, IsWithin.fewer w.within, few)) }
nearer n (Err e) s m t still few is = still_on s m t still is

is_over : (e f o : Bool) → e ≡ false → (e || (f && o)) ≡ true → o ≡ true
is_over true f o off c = absurd (false≢true (sym off))
is_over false true o off c = c
is_over false false o off c = absurd (false≢true c)

still_over : (s m : State) → is_at_end s.stage ≡ false → IsStill s m → is_closing s ≡ true → over m ≡ true
still_over s m off still c = still.over ∙ is_over (is_at_end s.stage) (is_following s.stage) (over s) off c

-- in a stage, with nothing else due than before
pub nearer_at : {A E : Type 0} (a : Stage) (n : ℕ) (r : Result A E) (s m t : State) → s.stage ≡ a → is_at_end a ≡ false → IsStill s m
    → due_steps m ≡ due_steps s → within n s < steps_on a s + steps_at a (is_recorded s) s.looks → OverWithin (within n m) r m t
    → is_closing s ≡ true → FollowsOn r s t
nearer_at a n r s m t e off still due few f c = nearer (within n m) r s m t still
    (omega (arith, due, spare_same s m still.spent, few, at s a (steps_on a s + steps_at a (is_recorded s) s.looks) e refl))
    (f (still_over s m (ap is_at_end e ∙ off) still c))

-- a file was written, or not
pub answered_still : (s m : State) (reply : Reply) → m ≡ answered s reply → IsStill s m
answered_still s m reply is = record { stage = ap (λ (x : State). x.stage) is; spent = ap (λ (x : State). x.book.spent) is; over = ap over is; course = ap (λ (x : State). x.course) is }

pub answered_due : (s m : State) (reply : Reply) → m ≡ answered s reply → due_steps m ≡ due_steps s
answered_due s m reply is = ap due_steps is

pub quiet_still : (s m : State) (reply : Reply) → IsQuiet (answered s reply) m → m.stage ≡ s.stage → IsStill s m
quiet_still s m reply is stage = record { stage = stage; spent = ap (λ (x : State). x.book.spent) is; over = ap over is; course = ap (λ (x : State). x.course) is }

pub quiet_due : (s m : State) (reply : Reply) → IsQuiet (answered s reply) m → due_steps m ≡ due_steps s
quiet_due s m reply is = ap due_steps is

-- the record's file has all of its text, or could not be kept
less_none : (n : ℕ) → nat_lt n n ≡ false
less_none n = search arith

record_stages : (st : Stage) → is_record (writes st) ≡ true → (st ≡ Stage.Recording) ⊎ (st ≡ Stage.Settling)
record_stages st is = grind arith

abbrev pub with_book : Book → State → State
with_book b s = record s { book = b }

-- ---- what was due is noted

with_note_same : (b : Bool) (x : Says) (g : Growth) → (with_note b x g).telling ≡ g.telling
with_note_same true x g = refl
with_note_same false x g = refl

sealed_same : (o : Bool) (k : Option (List ℕ)) (g : Growth) → (seal_if o k g).telling ≡ g.telling
sealed_same o None g = refl
sealed_same true (Some key) g = with_note_same (can_say (Sealed, seal_of key g.text)) (Sealed, seal_of key g.text) g
sealed_same false (Some key) g = refl

none_due : (g l o : Bool) → l ≡ false → o ≡ true → (g && (not true || (l || (true && not o)))) ≡ false
none_due true l o off is = search rules
none_due false l o off is = refl

closed_undue : (m : State) → over m ≡ true → is_due (closed m) true ≡ false
closed_undue m o = none_due (is_some m.book.noted.given) _ (over m)
    (ap (λ (g : Telling). nat_lt m.pair.recording.telling.counted.features g.counted.features) (sealed_same (over m) m.book.key m.pair.recording)
    ∙ less_none m.pair.recording.telling.counted.features) o

pub noted_nears : {A E : Type 0} (r : Result A E) (s m n t : State) → s.stage ≡ Stage.Noting → n ≡ closed m → IsStill s m → IsStill m n
    → OverWithin (to_record n) r n t → is_closing s ≡ true → FollowsOn r s t
noted_nears r s m n t e is first next f c =
    let still : IsStill s n = still_on s m n first next in
    let o : over m ≡ true = still_over s m (ap is_at_end e) first c in
    nearer (to_record n) r s n t still
    (omega (
      arith,
      place_most n.book n.pair.recording,
      spare_same s n still.spent,
      ap due_steps is,
      ap {B = ℕ} (λ (b : Bool). cond b 6 0) (closed_undue m o),
      at s Stage.Noting (steps_on Stage.Noting s + 0) e refl,
    ))
    (f (still_over s n (ap is_at_end e) still c))

-- ---- its file has all of its text, or could not be kept

place_filed : (b : Book) (g : Growth) → place_of (record b { filed = length g.text }) g ≤ 25
place_filed b g = go b.lost (nat_lt b.settled g.telling.counted.features) (nat_lt (length g.text) (length g.text)) (less_none (length g.text))
  where
    go : (x y z : Bool) → z ≡ false → cond x 24 (cond y 25 (cond z 26 24)) ≤ 25
    go true y z is = search arith
    go false true z is = search arith
    go false false true is = absurd (false≢true (sym is))
    go false false false is = search arith

place_settled : (b : Book) (g : Growth) → place_of (record b { filed = length g.text; settled = g.telling.counted.features }) g ≤ 24
place_settled b g = go b.lost (nat_lt g.telling.counted.features g.telling.counted.features) (nat_lt (length g.text) (length g.text))
    (less_none g.telling.counted.features) (less_none (length g.text))
  where
    go : (x y z : Bool) → y ≡ false → z ≡ false → cond x 24 (cond y 25 (cond z 26 24)) ≤ 24
    go true y z off unread = search arith
    go false true z off unread = absurd (false≢true (sym off))
    go false false true off unread = absurd (false≢true (sym unread))
    go false false false off unread = search arith

book_nears : {A E : Type 0} (a : Stage) (b : Book) (n : ℕ) (r : Result A E) (s m t : State) → s.stage ≡ a → is_at_end a ≡ false
    → m ≡ with_book b s → b.spent ≡ s.book.spent → b.noted ≡ s.book.noted → place_of b s.pair.recording ≤ n
    → within n s < steps_on a s + steps_at a (is_recorded s) s.looks → OverWithin (to_record m) r m t → is_closing s ≡ true → FollowsOn r s t
book_nears a b n r s m t e off is spent noted place few f c =
    let still : IsStill s m = record {
      stage = ap (λ (x : State). x.stage) is;
      spent = ap (λ (x : State). x.book.spent) is ∙ spent;
      over = ap over is;
      course = ap (λ (x : State). x.course) is;
    } in
    let due : due_steps m ≡ due_steps s = ap due_steps is ∙ ap (λ (x : Notes). due_steps (with_book (record b { noted = x }) s)) noted in
    nearer (to_record m) r s m t still
    (omega (
      arith,
      due,
      spare_same s m still.spent,
      place,
      few,
      ap (λ (x : State). place_of x.book x.pair.recording) is,
      at s a (steps_on a s + steps_at a (is_recorded s) s.looks) e refl,
    ))
    (f (still_over s m (ap is_at_end e ∙ off) still c))

pub filed_nears : {A E : Type 0} (r : Result A E) (s m t : State) → is_record (writes s.stage) ≡ true → m ≡ with_book m.book s → m.book ≡ filed s
    → OverWithin (to_record m) r m t → is_closing s ≡ true → FollowsOn r s t
filed_nears r s m t rec same book f c = go (record_stages s.stage rec)
  where
    is : (a : Stage) → s.stage ≡ a → m ≡ with_book (filed_by (writes a) s) s
    is a e = same ∙ ap (λ (b : Book). with_book b s) (book ∙ ap (λ (st : Stage). filed_by (writes st) s) e)

    go : (s.stage ≡ Stage.Recording) ⊎ (s.stage ≡ Stage.Settling) → FollowsOn r s t
    go (inl e) = book_nears Stage.Recording (filed_by (writes Stage.Recording) s) 25 r s m t e refl (is Stage.Recording e) refl refl
        (place_filed s.book s.pair.recording) (omega arith) f c
    go (inr e) = book_nears Stage.Settling (filed_by (writes Stage.Settling) s) 24 r s m t e refl (is Stage.Settling e) refl refl
        (place_settled s.book s.pair.recording) (omega arith) f c

pub lost_nears : {A E : Type 0} (r : Result A E) (s m n t : State) → is_record (writes s.stage) ≡ true → m ≡ with_book m.book s
    → m.book ≡ record (s.book) { lost = true } → n ≡ m → OverWithin (to_record n) r n t → is_closing s ≡ true → FollowsOn r s t
lost_nears r s m n t rec same book more f c = go (record_stages s.stage rec)
  where
    is : n ≡ with_book (record (s.book) { lost = true }) s
    is = more ∙ (same ∙ ap (λ (b : Book). with_book b s) book)

    go : (s.stage ≡ Stage.Recording) ⊎ (s.stage ≡ Stage.Settling) → FollowsOn r s t
    go (inl e) = book_nears Stage.Recording (record (s.book) { lost = true }) 24 r s n t e refl is refl refl (omega arith) (omega arith) f c
    go (inr e) = book_nears Stage.Settling (record (s.book) { lost = true }) 24 r s n t e refl is refl refl (omega arith) (omega arith) f c

-- ---- lines were logged

ends_most : (st : Stage) (s : State) → is_at_end st ≡ true → steps_on st s + steps_at st (is_recorded s) s.looks ≤ 21
ends_most st s is = grind arith

apart : (e : Bool) → (e ≡ true → ⊥) → e ≡ false
apart true off = absurd (off refl)
apart false off = refl

pub shown_nears : {A E : Type 0} (r : Result A E) (s m t : State) → within 27 s ≤ steps_left s → m ≡ s → OverWithin (to_record m) r m t
    → is_closing s ≡ true → FollowsOn r s t
shown_nears r s m t late is f c =
    let o : over s ≡ true = is_over (is_at_end s.stage) (is_following s.stage) (over s)
    (apart (is_at_end s.stage) (λ e. omega (arith, late, ends_most s.stage s e))) c in
    nearer (to_record s) r s s t (record { stage = refl; spent = refl; over = refl; course = refl })
    (omega (arith, late, place_most s.book s.pair.recording)) (subst (λ (x : State). OverWithin (to_record x) r x t) is f o)

-- ---- memory has run out

pub nears_short : {A E : Type 0} (r : Result A E) (s t u : State) → is_err r ≡ true → (is_at_end s.stage ≡ true → NearsOn r s t)
    → (is_following s.stage ≡ true → is_closing s ≡ true → FollowsOn r s t) → (is_at_end t.stage ≡ true → IsWithin 1 u)
    → IsWithin (short_left t) u → Nears s u
nears_short (Ok a) s t u is end follow last few = absurd (false≢true is)
nears_short (Err e) s t u is end follow last few = λ c. on_closing (is_at_end s.stage) (is_following s.stage) (over s)
    (λ e. short s t u (end e) e last) (λ f. short_over s t u (follow f c) f few) c

-- ---- in a stage of the end

ends : (s : State) → is_at_end s.stage ≡ true → is_closing s ≡ true
ends s e = ap (λ (b : Bool). b || (is_following s.stage && over s)) e

pub parted : (s t : State) → s.stage ≡ Stage.Parting → (t.stage ≡ Stage.Draining) ⊎ (t.stage ≡ Stage.Leaving) → IsNearer s t
parted s t e (inl f) = record {
  ending = ends t (ap is_at_end f);
  fewer = inr (omega (arith, at s Stage.Parting 18 e refl, at t Stage.Draining (0 + (8 + (9 - t.looks))) f refl));
}
parted s t e (inr f) = record {
  ending = ends t (ap is_at_end f);
  fewer = inr (omega (arith, at s Stage.Parting 18 e refl, at t Stage.Leaving 7 f refl));
}

-- ---- once the connection is left

few : (a b : Bool) → cond a (cond b 1 2) 4 ≤ 4
few true true = search arith
few true false = search arith
few false b = search arith

closed_on : {A E : Type 0} (r : Result A E) (s v t : State) → v.stage ≡ s.stage → to_close v < steps_left s → 1 < steps_left s
    → OnOk r (IsWithin (to_close v) t) → OnErr r (t.stage ≡ v.stage) → NearsOn r s t
closed_on (Ok a) s v t same less some within stays =
    record { ending = IsWithin.ending within; fewer = inr (omega (arith, IsWithin.fewer within, less)) }
closed_on (Err e) s v t same less some within stays = (stays ∙ same, some)

pub close_nears : {A E : Type 0} (r : Result A E) (s t : State) → 5 ≤ steps_left s → OnOk r (IsWithin (to_close s) t)
    → OnErr r (t.stage ≡ s.stage) → NearsOn r s t
close_nears r s t many within stays = closed_on r s s t refl
    (omega (arith, many, few (is_recorded s) (is_tried (s.begun && s.reports.named) s.reports.marks.written.contacts)))
    (omega (arith, many)) within stays

with_record : (a b : Bool) → a ≡ true → cond a (cond b 1 2) 4 < 3
with_record true true is = search arith
with_record true false is = search arith
with_record false b is = absurd (false≢true is)

with_contacts : (a b : Bool) → b ≡ true → cond a (cond b 1 2) 4 < cond a 2 5
with_contacts true true is = search arith
with_contacts false true is = search arith
with_contacts a false is = absurd (false≢true is)

less_after : (s : State) (reply : Reply) → (s.stage ≡ Stage.ReplacingRecord) ⊎ (s.stage ≡ Stage.ReplacingContacts)
    → to_close (answered s reply) < steps_at s.stage (is_recorded s) s.looks
less_after s reply (inl e) = subst (λ (st : Stage). to_close (with_marks (marked (writes st) (did (writes st) reply) s s.reports.marks) s)
    < steps_at st (is_recorded s) s.looks) (sym e)
    (with_record true (is_tried (s.begun && s.reports.named) s.reports.marks.written.contacts) refl)
less_after s reply (inr e) = subst (λ (st : Stage). to_close (with_marks (marked (writes st) (did (writes st) reply) s s.reports.marks) s)
    < steps_at st (is_recorded s) s.looks) (sym e) (with_contacts (is_recorded s) true refl)

not_features : (st : Stage) → (st ≡ Stage.ReplacingFeatures → ⊥)
    → (st ≡ Stage.ReplacingFeatures) ⊎ ((st ≡ Stage.ReplacingRecord) ⊎ (st ≡ Stage.ReplacingContacts))
    → (st ≡ Stage.ReplacingRecord) ⊎ (st ≡ Stage.ReplacingContacts)
not_features st not (inl e) = absurd (not e)
not_features st not (inr other) = other

pub replaced_nears : {A E : Type 0} (r : Result A E) (s v t : State) (reply : Reply) → v ≡ answered s reply
    → (v.stage ≡ Stage.ReplacingFeatures → ⊥)
    → (s.stage ≡ Stage.ReplacingFeatures) ⊎ ((s.stage ≡ Stage.ReplacingRecord) ⊎ (s.stage ≡ Stage.ReplacingContacts)) → 1 < steps_left s
    → OnOk r (IsWithin (to_close v) t) → OnErr r (t.stage ≡ v.stage) → NearsOn r s t
replaced_nears r s v t reply is not which some within stays = closed_on r s v t (ap (λ (x : State). x.stage) is)
    (subst (λ (x : State). to_close x < steps_left s) (sym is)
    (omega (arith, less_after s reply (not_features s.stage (λ e. not (ap (λ (x : State). x.stage) is ∙ e)) which)))) some within stays

abbrev stood : State → State
stood s = with_marks (marked (writes Stage.Standing) true s s.reports.marks) s

stood_is : (s : State) (reply : Reply) → s.stage ≡ Stage.Standing → is_done reply ≡ true → answered s reply ≡ stood s
stood_is s reply e done =
    ap (λ (st : Stage). with_marks (marked (writes st) (did (writes st) reply) s s.reports.marks) s) e
    ∙ ap (λ (b : Bool). with_marks (marked (writes Stage.Standing) b s s.reports.marks) s) done

stood_few : (s : State) → to_close (stood s) < 4
stood_few s = go (is_tried (s.begun && s.reports.named) s.reports.marks.written.contacts)
  where
    go : (b : Bool) → cond true (cond b 1 2) 4 < 4
    go true = search arith
    go false = search arith

pub stood_nears : {A E : Type 0} (r : Result A E) (s v t : State) (reply : Reply) → v ≡ answered s reply → s.stage ≡ Stage.Standing
    → is_done reply ≡ true → OnOk r (IsWithin (to_close v) t) → OnErr r (t.stage ≡ v.stage) → NearsOn r s t
stood_nears r s v t reply is e done within stays = closed_on r s v t (ap (λ (x : State). x.stage) is)
    (omega (arith, at s Stage.Standing 4 e refl, subst (λ (x : State). to_close x < 4) (sym (is ∙ stood_is s reply e done)) (stood_few s)))
    (omega (arith, at s Stage.Standing 4 e refl)) within stays

-- ---- after many

abbrev Left : ℕ → State → State → Type 0
Left n s t = (t.stage ≡ Stage.Exiting) ⊎ (n + steps_left t ≤ steps_left s)

none_less : (s t : State) → s.stage ≡ Stage.Exiting → steps_left t < steps_left s → ⊥
none_less s t exits less =
    omega (arith, subst (λ (st : Stage). steps_left t < steps_on st s + steps_at st (is_recorded s) s.looks) exits less)

exits_on : (n : ℕ) (s t u : State) → Left n s t → (u.stage ≡ Stage.Exiting) ⊎ (steps_left u < steps_left t) → Left (suc n) s u
exits_on n s t u left (inl exits) = inl exits
exits_on n s t u (inl exits) (inr less) = absurd (none_less t u exits less)
exits_on n s t u (inr left) (inr less) = inr (omega (arith, left, less))

after : (n : ℕ) (s t : State) → is_closing s ≡ true → After n s t → (is_closing t ≡ true) × Left n s t
after _ _ _ end (none s) = (end, inr (omega arith))
after _ _ _ end (one n s t u a nears) =
    let b : (is_closing t ≡ true) × Left n s t = after n s t end a in
    let c : IsNearer t u = nears b.0 in
    (IsNearer.ending c, exits_on n s t u b.1 (IsNearer.fewer c))

exits : (n most : ℕ) (s t : State) → steps_left s ≤ most → Left n s t → most < n → t.stage ≡ Stage.Exiting
exits n most s t few (inl is) many = is
exits n most s t few (inr left) many = absurd (omega (arith, left, many, few))

pub over_exits : (n : ℕ) (s t : State) → is_closing s ≡ true → After n s t → 50 ≤ n → t.stage ≡ Stage.Exiting
over_exits n s t c a many = exits n 49 s t (following_most s.stage s (due_most s) (spare_most s)) (after n s t c a).1 (omega (arith, many))

pub ends_exit : (n : ℕ) (s t : State) → is_at_end s.stage ≡ true → After n s t → 22 ≤ n → t.stage ≡ Stage.Exiting
ends_exit n s t e a many = exits n 21 s t (ends_most s.stage s e) (after n s t (ends s e) a).1 (omega (arith, many))

joined : (st : Stage) → is_joined (pace st) ≡ true → (pace st ≡ Going) ⊎ (is_following st ≡ true)
joined st is = grind arith

pub closes : (s : State) → HasFollowed s → s.book.short ≡ false → is_joined (pace s.stage) ≡ true → over s ≡ true → is_closing s ≡ true
closes s has long is o = go (joined s.stage is)
  where
    end : (e f : Bool) → f ≡ true → (e || (f && over s)) ≡ true
    end true f g = refl
    end false f g = ap (λ (b : Bool). b && over s) g ∙ o

    go : (pace s.stage ≡ Going) ⊎ (is_following s.stage ≡ true) → is_closing s ≡ true
    go (inl going) = absurd (false≢true (sym (subst (λ (p : Pace). IsAt p s) going (has long)).1 ∙ o))
    go (inr f) = end (is_at_end s.stage) (is_following s.stage) f
