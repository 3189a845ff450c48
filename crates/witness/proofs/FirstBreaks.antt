-- What is found is the first line that breaks a rule.
use Rattle.witness.proofs.JudgementNames.{[], ◌++◌, ◌+◌, ◌-◌, ◌∙◌, ◌∷◌, ◌≡◌, ◌≤◌, ap, append-nil, append_assoc, arith, BreaksAt, first_break, Found, IsFirst}
use Rattle.witness.proofs.JudgementNames.{found_at, length, List, None, none-some, Option, refl, reverse, Rule, slice_get, Some, subst, suc, sym, take}
use Rattle.witness.proofs.JudgementNames.{zero, ℕ}
use Rattle.std.proofs.lemmas.Grind.{reverse_onto}

-- a line breaks a rule, with other lines above all of these
record BreaksUnder {X : Type 0} (rule : List X → X → Option Rule) (above xs : List X) (at : ℕ) (broken : Rule) : Type 0 where
  line : X
  there : slice_get xs at ≡ Some line
  breaks : rule (reverse (take at xs) ++ above) line ≡ Some broken

record IsFirstUnder {X : Type 0} (rule : List X → X → Option Rule) (above xs : List X) (found : Found) : Type 0 where
  at : ℕ
  number : found.number ≡ length above + 1 + at
  breaks : BreaksUnder rule above xs at found.rule
  first : (k : ℕ) (r : Rule) → BreaksUnder rule above xs k r → at ≤ k

onto : {X : Type 0} (k : ℕ) (y : X) (ys above : List X) → reverse (y ∷ take k ys) ++ above ≡ reverse (take k ys) ++ (y ∷ above)
onto {X = X} k y ys above = ap (λ (l : List X). l ++ above) (reverse_onto (take k ys) y []) ∙ append_assoc (reverse (take k ys)) (y ∷ []) above

found_none : (n : ℕ) (o : Option Rule) (more : Option Found) → found_at n o more ≡ None → (o ≡ None) × (more ≡ None)
found_none n None more e = (refl, e)
found_none n (Some r) more e = absurd (none-some _ (sym e))

-- a break under one line more is one of all lines
after_one : {X : Type 0} (rule : List X → X → Option Rule) (above : List X) (y : X) (ys : List X) (k : ℕ) (r : Rule)
    → BreaksUnder rule above (y ∷ ys) (suc k) r → BreaksUnder rule (y ∷ above) ys k r
after_one {X = X} rule above y ys k r b = record {
  line = b.line;
  there = b.there;
  breaks = subst (λ (a : List X). rule a b.line ≡ Some r) (onto k y ys above) b.breaks;
}

before_one : {X : Type 0} (rule : List X → X → Option Rule) (above : List X) (y : X) (ys : List X) (k : ℕ) (r : Rule)
    → BreaksUnder rule (y ∷ above) ys k r → BreaksUnder rule above (y ∷ ys) (suc k) r
before_one {X = X} rule above y ys k r b = record {
  line = b.line;
  there = b.there;
  breaks = subst (λ (a : List X). rule a b.line ≡ Some r) (sym (onto k y ys above)) b.breaks;
}

-- the first line breaks no rule
not_now : {X : Type 0} (rule : List X → X → Option Rule) (above : List X) (y : X) (ys : List X) (r : Rule) → rule above y ≡ None
    → BreaksUnder rule above (y ∷ ys) 0 r → ⊥
not_now rule above y ys r keeps b =
    let same : Some y ≡ Some b.line = b.there in
    let breaks : rule above b.line ≡ Some r = b.breaks in
    absurd (cc)

none_under : {X : Type 0} (rule : List X → X → Option Rule) (above xs : List X) → first_break rule above xs ≡ None → (k : ℕ) (r : Rule)
    → BreaksUnder rule above xs k r → ⊥
none_under rule above [] e k r b = none-some b.line b.there
none_under rule above (y ∷ ys) e zero r b = not_now rule above y ys r (found_none _ _ _ e).0 b
none_under rule above (y ∷ ys) e (suc k) r b =
    none_under rule (y ∷ above) ys (found_none _ _ _ e).1 k r (after_one rule above y ys k r b)

first_now : {X : Type 0} (rule : List X → X → Option Rule) (above : List X) (y : X) (ys : List X) (r : Rule) → rule above y ≡ Some r
    → IsFirstUnder rule above (y ∷ ys) (record { number = length above + 1; rule = r })
first_now rule above y ys r breaks = record {
  at = 0;
  number = omega arith;
  breaks = record { line = y; there = refl; breaks = breaks };
  first = λ k s b. omega arith;
}

later_first : {X : Type 0} (rule : List X → X → Option Rule) (above : List X) (y : X) (ys : List X) (found : Found) → rule above y ≡ None
    → (later : IsFirstUnder rule (y ∷ above) ys found) → (k : ℕ) (r : Rule) → BreaksUnder rule above (y ∷ ys) k r → suc later.at ≤ k
later_first rule above y ys found keeps later zero r b = absurd (not_now rule above y ys r keeps b)
later_first rule above y ys found keeps later (suc k) r b =
    let least = later.first k r (after_one rule above y ys k r b) in
    omega (arith, least)

first_later : {X : Type 0} (rule : List X → X → Option Rule) (above : List X) (y : X) (ys : List X) (found : Found) → rule above y ≡ None
    → IsFirstUnder rule (y ∷ above) ys found → IsFirstUnder rule above (y ∷ ys) found
first_later rule above y ys found keeps later = record {
  at = suc later.at;
  number = omega (arith, later.number);
  breaks = before_one rule above y ys later.at found.rule later.breaks;
  first = later_first rule above y ys found keeps later;
}

first_by : {X : Type 0} (rule : List X → X → Option Rule) (above : List X) (y : X) (ys : List X) (found : Found) (o : Option Rule)
    → rule above y ≡ o → (first_break rule (y ∷ above) ys ≡ Some found → IsFirstUnder rule (y ∷ above) ys found)
    → found_at (length above + 1) o (first_break rule (y ∷ above) ys) ≡ Some found → IsFirstUnder rule above (y ∷ ys) found
first_by rule above y ys found None is later e = first_later rule above y ys found is (later e)
first_by rule above y ys found (Some r) is later e =
    let same : record { number = length above + 1; rule = r } ≡ found = cc in
    subst (λ (f : Found). IsFirstUnder rule above (y ∷ ys) f) same (first_now rule above y ys r is)

first_under : {X : Type 0} (rule : List X → X → Option Rule) (above xs : List X) (found : Found) → first_break rule above xs ≡ Some found
    → IsFirstUnder rule above xs found
first_under rule above [] found e = absurd (none-some _ e)
first_under rule above (y ∷ ys) found e =
    first_by rule above y ys found (rule above y) refl (first_under rule (y ∷ above) ys found) e

-- with no line above all of them
under : {X : Type 0} (rule : List X → X → Option Rule) (xs : List X) (k : ℕ) (r : Rule) → BreaksAt rule xs k r → BreaksUnder rule [] xs k r
under {X = X} rule xs k r b = record {
  line = b.line;
  there = b.there;
  breaks = subst (λ (a : List X). rule a b.line ≡ Some r) (sym (append-nil (reverse (take k xs)))) b.breaks;
}

alone : {X : Type 0} (rule : List X → X → Option Rule) (xs : List X) (k : ℕ) (r : Rule) → BreaksUnder rule [] xs k r → BreaksAt rule xs k r
alone {X = X} rule xs k r b = record {
  line = b.line;
  there = b.there;
  breaks = subst (λ (a : List X). rule a b.line ≡ Some r) (append-nil (reverse (take k xs))) b.breaks;
}

never : {X : Type 0} (rule : List X → X → Option Rule) (xs : List X) → first_break rule [] xs ≡ None → (k : ℕ) (r : Rule)
    → BreaksAt rule xs k r → ⊥
never rule xs e k r b = none_under rule [] xs e k r (under rule xs k r b)

breaks_there : {X : Type 0} (rule : List X → X → Option Rule) (xs : List X) (found : Found) → first_break rule [] xs ≡ Some found
    → BreaksAt rule xs (found.number - 1) found.rule
breaks_there rule xs found e =
    let first = first_under rule [] xs found e in
    let same : first.at ≡ found.number - 1 = omega (arith, first.number) in
    subst (λ (k : ℕ). BreaksAt rule xs k found.rule) same (alone rule xs first.at found.rule first.breaks)

breaks_first : {X : Type 0} (rule : List X → X → Option Rule) (xs : List X) (found : Found) → first_break rule [] xs ≡ Some found
    → (k : ℕ) (r : Rule) → BreaksAt rule xs k r → found.number ≤ k + 1
breaks_first rule xs found e k r b =
    let first = first_under rule [] xs found e in
    let least = first.first k r (under rule xs k r b) in
    omega (arith, first.number, least)

pub is_first : {X : Type 0} (rule : List X → X → Option Rule) (xs : List X) → IsFirst rule xs (first_break rule [] xs)
is_first rule xs = record { breaks = breaks_there rule xs; first = breaks_first rule xs; none = never rule xs }
