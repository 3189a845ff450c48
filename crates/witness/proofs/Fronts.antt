-- The first lines of each sort that is looked for, with a line of the server more.
use Rattle.witness.proofs.JudgementNames.{[], ◌&&◌, ◌+◌, ◌-◌, ◌<◌, ◌∙◌, ◌∷◌, ◌≡◌, ◌≤◌, ap, arith, Bool, drop, drop_all}
use Rattle.witness.proofs.JudgementNames.{false, false≢true, first_from, front, get_or, has_come, Heard, if◌then◌else◌, is_clear, is_ended}
use Rattle.witness.proofs.JudgementNames.{is_open, is_queued, is_some, is_sought_after, length, List}
use Rattle.witness.proofs.JudgementNames.{Mark, None, not, noted, Option, option_or, refl, Sent}
use Rattle.witness.proofs.JudgementNames.{Some, Sought, stage_by, subst, suc, sym, true, zero, ℕ}

-- ---- the first of some lines

starts : (p : ℕ → Sent → Bool) (a : ℕ) (lines : List Sent) → a ≤ first_from p a lines
starts p a [] = omega arith
starts p a (s ∷ lines) = by (p a s) (starts p (a + 1) lines)
  where
    by : (b : Bool) → a + 1 ≤ first_from p (a + 1) lines → a ≤ (if b then a else first_from p (a + 1) lines)
    by true ih = omega arith
    by false ih = omega (arith, ih)

pub within : (p : ℕ → Sent → Bool) (a : ℕ) (lines : List Sent) → first_from p a lines ≤ a + length lines
within p a [] = omega arith
within p a (s ∷ lines) = by (p a s) (within p (a + 1) lines)
  where
    by : (b : Bool) → first_from p (a + 1) lines ≤ a + 1 + length lines → (if b then a else first_from p (a + 1) lines) ≤ a + length (s ∷ lines)
    by true ih = omega arith
    by false ih = omega (arith, ih)

least : (p : ℕ → Sent → Bool) (a k : ℕ) (d : Sent) (lines : List Sent) → k < length lines → p (a + k) (get_or lines k d) ≡ true
    → first_from p a lines ≤ a + k
least p a k d [] short is = absurd (omega (arith, short))
least p a zero d (s ∷ lines) short is = by (p a s) (ap (λ (n : ℕ). p n s) (omega arith) ∙ is)
  where
    by : (b : Bool) → b ≡ true → (if b then a else first_from p (a + 1) lines) ≤ a + 0
    by true e = omega arith
    by false e = absurd (false≢true e)
least p a (suc k) d (s ∷ lines) short is =
    by (p a s) (least p (a + 1) k d lines (omega (arith, short)) (ap (λ (n : ℕ). p n (get_or lines k d)) (omega arith) ∙ is))
  where
    by : (b : Bool) → first_from p (a + 1) lines ≤ a + 1 + k → (if b then a else first_from p (a + 1) lines) ≤ a + suc k
    by true ih = omega arith
    by false ih = omega (arith, ih)

grows : (p q : ℕ → Sent → Bool) → ((at : ℕ) (s : Sent) → q at s ≡ true → p at s ≡ true) → (a : ℕ) (lines : List Sent)
    → first_from p a lines ≤ first_from q a lines
grows p q all a [] = omega arith
grows p q all a (s ∷ lines) = by (p a s) (q a s) (all a s) (grows p q all (a + 1) lines) (starts q (a + 1) lines)
  where
    by : (b c : Bool) → (c ≡ true → b ≡ true) → first_from p (a + 1) lines ≤ first_from q (a + 1) lines → a + 1 ≤ first_from q (a + 1) lines
        → (if b then a else first_from p (a + 1) lines) ≤ (if c then a else first_from q (a + 1) lines)
    by true true e ih later = omega arith
    by true false e ih later = omega (arith, later)
    by false true e ih later = absurd (false≢true (e refl))
    by false false e ih later = ih

dropped : {X : Type 0} (s : X) (lines : List X) (a f : ℕ) → a + 1 ≤ f → drop (f - a) (s ∷ lines) ≡ drop (f - (a + 1)) lines
dropped {X = X} s lines a f later = ap (λ (n : ℕ). drop n (s ∷ lines)) (the_same a f later)
  where
    the_same : (a f : ℕ) → a + 1 ≤ f → f - a ≡ suc (f - (a + 1))
    the_same a f later = omega (arith, later)

moves : (p q : ℕ → Sent → Bool) → ((at : ℕ) (s : Sent) → q at s ≡ true → p at s ≡ true) → (a : ℕ) (lines : List Sent)
    → first_from q (first_from p a lines) (drop (first_from p a lines - a) lines) ≡ first_from q a lines
moves p q all a [] = ap (first_from q a) (drop_all (a - a) [] (omega arith))
moves p q all a (s ∷ lines) = by (p a s) (q a s) refl (all a s) (moves p q all (a + 1) lines)
  where
    by : (b c : Bool) → q a s ≡ c → (c ≡ true → b ≡ true)
        → first_from q (first_from p (a + 1) lines) (drop (first_from p (a + 1) lines - (a + 1)) lines) ≡ first_from q (a + 1) lines
        → first_from q (if b then a else first_from p (a + 1) lines) (drop ((if b then a else first_from p (a + 1) lines) - a) (s ∷ lines))
        ≡ first_from q a (s ∷ lines)
    by true c is e ih = ap (λ (n : ℕ). first_from q a (drop n (s ∷ lines))) (zero_is a)
      where
        zero_is : (a : ℕ) → a - a ≡ 0
        zero_is a = omega arith
    by false true is e ih = absurd (false≢true (e refl))
    by false false is e ih = ap (first_from q (first_from p (a + 1) lines)) (dropped s lines a (first_from p (a + 1) lines) (starts p (a + 1) lines)) ∙ ih
        ∙ ap (λ (b : Bool). if b then a else first_from q (a + 1) lines) (sym is)

-- ---- what is looked for was looked for before

some_or : {A : Type 0} (o p : Option A) → is_some o ≡ true → is_some (option_or o p) ≡ true
some_or None p is = absurd (false≢true is)
some_or (Some a) p is = refl

still : (m : Mark) (up : List Sent) (h : Heard) (above : List Heard) (at : ℕ) → has_come m up above at ≡ true → has_come m up (h ∷ above) at ≡ true
still m up h above at is = some_or (noted Mark.Complete m up above at) _ is

open_before : (e f g r e' f' g' r' : Bool) → (e ≡ true → e' ≡ true) → (f ≡ true → f' ≡ true) → is_open (stage_by e' f' g' r') ≡ true
    → is_open (stage_by e f g r) ≡ true
open_before false false true r e' f' g' r' ended failed is = refl
open_before false false false true e' f' g' r' ended failed is = refl
open_before false false false false e' f' g' r' ended failed is = refl
open_before true f g r true f' g' r' ended failed is = absurd (false≢true is)
open_before true f g r false f' g' r' ended failed is = absurd (false≢true (ended refl))
open_before false true g r true f' g' r' ended failed is = absurd (false≢true is)
open_before false true g r false true g' r' ended failed is = absurd (false≢true is)
open_before false true g r false false g' r' ended failed is = absurd (false≢true (failed refl))

unended_before : (e f g r e' f' g' r' : Bool) → (e ≡ true → e' ≡ true) → not (is_ended (stage_by e' f' g' r')) ≡ true
    → not (is_ended (stage_by e f g r)) ≡ true
unended_before true f g r true f' g' r' ended is = absurd (false≢true is)
unended_before true f g r false f' g' r' ended is = absurd (false≢true (ended refl))
unended_before false true g r e' f' g' r' ended is = refl
unended_before false false true r e' f' g' r' ended is = refl
unended_before false false false true e' f' g' r' ended is = refl
unended_before false false false false e' f' g' r' ended is = refl

both : (q a b : Bool) → (b ≡ true → a ≡ true) → (q && b) ≡ true → (q && a) ≡ true
both true a b e is = e is
both false a b e is = absurd (false≢true is)

sought_before : (w : Sought) (up : List Sent) (h : Heard) (above : List Heard) (at : ℕ) (s : Sent) → is_sought_after w up (h ∷ above) at s ≡ true
    → is_sought_after w up above at s ≡ true
sought_before Sought.Open up h above at s is = both (is_queued s) _ _
    (open_before (has_come Mark.Complete up above at) (has_come Mark.Error up above at) (has_come Mark.Data up above at) (has_come Mark.Received up above at) _ _ _ _
    (still Mark.Complete up h above at) (still Mark.Error up h above at)) is
sought_before Sought.Unended up h above at s is = both (is_queued s) _ _
    (unended_before (has_come Mark.Complete up above at) (has_come Mark.Error up above at) (has_come Mark.Data up above at) (has_come Mark.Received up above at)
    _ _ _ _ (still Mark.Complete up h above at)) is
sought_before Sought.Clearing up h above at s is = both (is_clear s) _ _
    (open_before (has_come Mark.Complete up above at) (has_come Mark.Error up above at) (has_come Mark.Data up above at) (has_come Mark.Received up above at) _ _ _ _
    (still Mark.Complete up h above at) (still Mark.Error up h above at)) is

-- ---- the fronts

pub front_within : (w : Sought) (up : List Sent) (above : List Heard) → front w up above ≤ length up
front_within w up above = let all = within (is_sought_after w up above) 0 up in omega (arith, all)

pub front_grows : (w : Sought) (up : List Sent) (h : Heard) (above : List Heard) → front w up above ≤ front w up (h ∷ above)
front_grows w up h above = grows (is_sought_after w up above) (is_sought_after w up (h ∷ above)) (sought_before w up h above) 0 up

less_none : (n : ℕ) → n ≡ n - 0
less_none n = omega arith

pub front_moves : (w : Sought) (up : List Sent) (h : Heard) (above : List Heard)
    → first_from (is_sought_after w up (h ∷ above)) (front w up above) (drop (front w up above) up) ≡ front w up (h ∷ above)
front_moves w up h above =
    ap (λ (n : ℕ). first_from (is_sought_after w up (h ∷ above)) (front w up above) (drop n up)) (less_none (front w up above))
    ∙ moves (is_sought_after w up above) (is_sought_after w up (h ∷ above)) (sought_before w up h above) 0 up

pub front_least : (w : Sought) (up : List Sent) (above : List Heard) (at : ℕ) (d : Sent) → at < length up
    → is_sought_after w up above at (get_or up at d) ≡ true → front w up above ≤ at
front_least w up above at d short is =
    let low = least (is_sought_after w up above) 0 at d up short (subst (λ (n : ℕ). is_sought_after w up above n (get_or up at d) ≡ true) (omega arith) is) in
    omega (arith, low)
