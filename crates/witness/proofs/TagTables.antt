-- Tables by tag.
use Rattle.witness.proofs.JudgementNames.{[], ◌+◌, ◌<◌, ◌==◌, ◌∙◌, ◌∷◌, ◌≡◌, ◌≤◌, ap, AreFirst, AreNext, arith, Bool, code_of, drop, drop_all}
use Rattle.witness.proofs.JudgementNames.{drop_more, eq-eqb, eqb-true, Event, false, false≢true, found, get_or, if◌then◌else◌, is_under, is_use, length}
use Rattle.std.specs.Option.{option_flatten}
use Rattle.witness.proofs.JudgementNames.{slice_get, List, None, none-some, Option, place_from, refl, Sent, Some, Std, suc, sym, Tag, tag_is, tag_of, true}
use Rattle.witness.proofs.JudgementNames.{zero, ℕ}

pub same_tag : (t u : Tag) → tag_is t u ≡ true → t ≡ u
same_tag (Std n) (Std m) is = ap Std (eqb-true n m is)
same_tag (Std n) (Event m) is = absurd (false≢true is)
same_tag (Event n) (Std m) is = absurd (false≢true is)
same_tag (Event n) (Event m) is = ap Event (eqb-true n m is)

apart : (n m : ℕ) → (n == m) ≡ false → n ≡ m → ⊥
apart n m is same = false≢true (sym is ∙ eq-eqb n m same)

pub looked : (table : List (Option ℕ)) (at : ℕ) → option_flatten (slice_get table at) ≡ get_or table at None
looked [] at = refl
looked (None ∷ table) zero = refl
looked (Some n ∷ table) zero = refl
looked (o ∷ table) (suc at) = looked table at

-- a number of a table is that of one tag
other_code : (t u : Tag) → tag_is u t ≡ false → code_of t ≡ code_of u → ⊥
other_code (Std n) (Std m) is same = apart m n is (omega (arith, same))
other_code (Std n) (Event m) is same = omega (arith, same)
other_code (Event n) (Std m) is same = omega (arith, same)
other_code (Event n) (Event m) is same = apart m n is (omega (arith, same))

-- one entry changes
pub put_found : (t u : Tag) (old room new : List (Option ℕ)) (place : Option ℕ) → get_or new (code_of u) None ≡ place
    → ((at : ℕ) → (at ≡ code_of u → ⊥) → get_or new at None ≡ get_or room at None) → ((at : ℕ) → get_or room at None ≡ get_or old at None)
    → found new t ≡ (if tag_is u t then place else found old t)
put_found t u old room new place own others same = go (tag_is u t) refl
  where
    go : (b : Bool) → tag_is u t ≡ b → found new t ≡ (if b then place else found old t)
    go true is = ap (λ (v : Tag). found new v) (sym (same_tag u t is)) ∙ own
    go false is = others (code_of t) (other_code t u is) ∙ same (code_of t)

-- ---- the uses from a place on

later_by : (from at : ℕ) (b : Bool) (x y : Option ℕ) → (x ≡ Some at → from ≤ at) → (y ≡ Some at → from ≤ at)
    → (if b then x else y) ≡ Some at → from ≤ at
later_by from at true x y one two e = one e
later_by from at false x y one two e = two e

sooner : (from at : ℕ) → from + 1 ≤ at → from ≤ at
sooner from at later = omega (arith, later)

here : (from at : ℕ) → Some from ≡ Some at → from ≤ at
here from at e = let same : from ≡ at = cc in omega (arith, same)

at_least : (from : ℕ) (t : Tag) (n at : ℕ) (lines : List Sent) → place_from from t n lines ≡ Some at → from ≤ at
at_least from t n at [] is = absurd (none-some _ is)
at_least from t zero at (s ∷ lines) is = later_by from at (is_use t s) (Some from) (place_from (from + 1) t zero lines) (here from at)
    (λ e. sooner from at (at_least (from + 1) t zero at lines e)) is
at_least from t (suc n) at (s ∷ lines) is = later_by from at (is_use t s) (place_from (from + 1) t n lines) (place_from (from + 1) t (suc n) lines)
    (λ e. sooner from at (at_least (from + 1) t n at lines e)) (λ e. sooner from at (at_least (from + 1) t (suc n) at lines e)) is

-- the lines from a place on
first_opened : (up : List Sent) (at : ℕ) (s : Sent) (o : Option Tag) (t : Tag) → at < length up → tag_of (get_or up at s) ≡ o
    → place_from at t zero (drop at up) ≡ (if is_under t o then Some at else place_from (at + 1) t zero (drop (at + 1) up))
first_opened up at s o t short is = ap (place_from at t zero) (drop_more up at s short)
    ∙ ap (λ (o : Option Tag). if is_under t o then Some at else place_from (at + 1) t zero (drop (at + 1) up)) is

next_opened : (up : List Sent) (at : ℕ) (s : Sent) (o : Option Tag) (t : Tag) (n : ℕ) → at < length up → tag_of (get_or up at s) ≡ o
    → place_from at t (suc n) (drop at up)
    ≡ (if is_under t o then place_from (at + 1) t n (drop (at + 1) up) else place_from (at + 1) t (suc n) (drop (at + 1) up))
next_opened up at s o t n short is = ap (place_from at t (suc n)) (drop_more up at s short)
    ∙ ap (λ (o : Option Tag). if is_under t o then place_from (at + 1) t n (drop (at + 1) up) else place_from (at + 1) t (suc n) (drop (at + 1) up)) is

pub first_more : (up : List Sent) (at : ℕ) (s : Sent) (tag : Tag) (old new : List (Option ℕ)) → at < length up → tag_of (get_or up at s) ≡ Some tag
    → AreFirst up (at + 1) old → ((t : Tag) → found new t ≡ (if tag_is tag t then Some at else found old t)) → AreFirst up at new
first_more up at s tag old new short is are put = λ t. put t
    ∙ ap (λ (o : Option ℕ). if tag_is tag t then Some at else o) (are t) ∙ sym (first_opened up at s (Some tag) t short is)

pub first_untagged : (up : List Sent) (at : ℕ) (s : Sent) (table : List (Option ℕ)) → at < length up → tag_of (get_or up at s) ≡ None
    → AreFirst up (at + 1) table → AreFirst up at table
first_untagged up at s table short is are = λ t. are t ∙ sym (first_opened up at s None t short is)

not_here : (at p : ℕ) → at + 1 ≤ p → p ≡ at → ⊥
not_here at p later same = omega (arith, later, same)

chosen : {A : Type 0} (b : Bool) (x y : A) → b ≡ true → (if b then x else y) ≡ x
chosen true x y is = refl
chosen false x y is = absurd (false≢true is)

other : {A : Type 0} (b : Bool) (x y : A) → b ≡ false → (if b then x else y) ≡ y
other true x y is = absurd (false≢true (sym is))
other false x y is = refl

kept : (up : List Sent) (at : ℕ) (old new : List (Option ℕ)) → AreNext up (at + 1) old
    → ((p : ℕ) → (p ≡ at → ⊥) → get_or new p None ≡ get_or old p None) → (t : Tag) (n p : ℕ)
    → place_from (at + 1) t n (drop (at + 1) up) ≡ Some p → get_or new p None ≡ place_from (at + 1) t (suc n) (drop (at + 1) up)
kept up at old new nexts others t n p e =
    others p (not_here at p (at_least (at + 1) t n p (drop (at + 1) up) e)) ∙ nexts.each t n p e

pub next_more : (up : List Sent) (at : ℕ) (s : Sent) (tag : Tag) (first old new : List (Option ℕ)) → at < length up
    → tag_of (get_or up at s) ≡ Some tag → AreFirst up (at + 1) first → AreNext up (at + 1) old → length new ≡ length old
    → get_or new at None ≡ found first tag → ((p : ℕ) → (p ≡ at → ⊥) → get_or new p None ≡ get_or old p None) → AreNext up at new
next_more up at s tag first old new short is are nexts count own others = record {
  count = count ∙ nexts.count;
  each = λ t n p e. go t n p (tag_is tag t) refl e;
}
  where
    here_is : (p : ℕ) → Some at ≡ Some p → p ≡ at
    here_is p e = cc

    go : (t : Tag) (n p : ℕ) (b : Bool) → tag_is tag t ≡ b → place_from at t n (drop at up) ≡ Some p → get_or new p None ≡ place_from at t (suc n) (drop at up)
    go t zero p true same e =
        let e' = sym (chosen (tag_is tag t) _ _ same) ∙ sym (first_opened up at s (Some tag) t short is) ∙ e in
        ap (λ (k : ℕ). get_or new k None) (here_is p e') ∙ own ∙ are tag
        ∙ ap (λ (v : Tag). place_from (at + 1) v zero (drop (at + 1) up)) (same_tag tag t same)
        ∙ sym (chosen (tag_is tag t) _ _ same) ∙ sym (next_opened up at s (Some tag) t zero short is)
    go t (suc n) p true same e =
        let e' = sym (chosen (tag_is tag t) _ _ same) ∙ sym (next_opened up at s (Some tag) t n short is) ∙ e in
        kept up at old new nexts others t n p e' ∙ sym (chosen (tag_is tag t) _ _ same) ∙ sym (next_opened up at s (Some tag) t (suc n) short is)
    go t zero p false same e =
        let e' = sym (other (tag_is tag t) _ _ same) ∙ sym (first_opened up at s (Some tag) t short is) ∙ e in
        kept up at old new nexts others t zero p e' ∙ sym (other (tag_is tag t) _ _ same) ∙ sym (next_opened up at s (Some tag) t zero short is)
    go t (suc n) p false same e =
        let e' = sym (other (tag_is tag t) _ _ same) ∙ sym (next_opened up at s (Some tag) t n short is) ∙ e in
        kept up at old new nexts others t (suc n) p e' ∙ sym (other (tag_is tag t) _ _ same) ∙ sym (next_opened up at s (Some tag) t (suc n) short is)

pub next_untagged : (up : List Sent) (at : ℕ) (s : Sent) (next : List (Option ℕ)) → at < length up → tag_of (get_or up at s) ≡ None
    → AreNext up (at + 1) next → AreNext up at next
next_untagged up at s next short is nexts = record {
  count = nexts.count;
  each = λ t n p e. go t n p e;
}
  where
    go : (t : Tag) (n p : ℕ) → place_from at t n (drop at up) ≡ Some p → get_or next p None ≡ place_from at t (suc n) (drop at up)
    go t zero p e = nexts.each t zero p (sym (first_opened up at s None t short is) ∙ e) ∙ sym (next_opened up at s None t zero short is)
    go t (suc n) p e = nexts.each t (suc n) p (sym (next_opened up at s None t n short is) ∙ e) ∙ sym (next_opened up at s None t (suc n) short is)

pub next_none : (up : List Sent) (from : ℕ) (next : List (Option ℕ)) → length next ≡ length up → length up ≤ from → AreNext up from next
next_none up from next count past = record {
  count = count;
  each = λ t n p e. absurd (none-some _ (sym (nothing t n) ∙ e));
}
  where
    nothing : (t : Tag) (n : ℕ) → place_from from t n (drop from up) ≡ None
    nothing t n = ap (place_from from t n) (drop_all from up past)
