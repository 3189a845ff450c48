-- If few commands are open, each next one is sent under the tag of its place in the plan.
use Rattle.protocol_model.proofs.Names.{[], ◌%◌, ◌++◌, ◌+◌, ◌-◌, ◌<◌, ◌∙◌, ◌∷◌, ◌≡◌, ◌≤◌, ◌⊎◌, ap, arith, Bool, count_open, eqb, eqb-false, eqb-true}
use Rattle.protocol_model.proofs.Names.{false, first_free, inl, inr, is_failed, is_held, length, Line, lines_from, List, ne_eqb, next_number, None}
use Rattle.protocol_model.proofs.Names.{OpenCommand, Option, or_else, Planned, refl, Some, Std, subst, suc, sym, Tag, tag_at, tag_is, true, zero, ℕ}
use Rattle.protocol_model.proofs.table.Basics.{if_false}
use Rattle.protocol_model.proofs.undisturbed_run.Following.{AreCalm, HaveTags}

-- the number of the tag at a place of the plan
abbrev pub number_at : ℕ → ℕ
number_at place = place % 9999 + 1

-- the number that was drawn last, after that many commands
abbrev pub drawn_at : ℕ → ℕ
drawn_at zero = 0
drawn_at (suc place) = number_at place

far_apart : (i j : ℕ) → i < j → j ≤ i + 16 → number_at i ≡ number_at j → ⊥
far_apart i j lt le e = omega (arith, e)

-- the tag of the next place is not one of the few before it
pub next_is_free : (hs : List OpenCommand) (i j : ℕ) → HaveTags i hs → i + length hs ≡ j → length hs ≤ 16 → is_held (tag_at j) hs ≡ false
next_is_free [] i j h e few = refl
next_is_free (x ∷ hs) i j h e few =
    if_false {A = Bool} (tag_is x.tag (tag_at j)) true (is_held (tag_at j) hs) (ap (λ (t : Tag). tag_is t (tag_at j)) h.0
    ∙ ne_eqb (number_at i) (number_at j) (far_apart i j (omega (arith, e)) (omega (arith, e, few))))
    ∙ next_is_free hs (suc i) j h.1 (omega (arith, e)) (omega (arith, few))

first_is : (hs : List OpenCommand) (n left : ℕ) → is_held (Std n) hs ≡ false → first_free Std hs n (suc left) ≡ Some n
first_is hs n left e = ap (λ (b : Bool). elim b as (λ x. Option ℕ) [ true ↦ first_free Std hs (suc n) left | false ↦ Some n ]) e

-- the number after the one that was drawn last, if it is free
next_by : (hs : List OpenCommand) (d m : ℕ) → is_held (Std m) hs ≡ false → ((d < 9999) × (m ≡ suc d)) ⊎ ((d ≡ 9999) × (m ≡ 1))
    → next_number Std hs d ≡ Some m
next_by hs d m free (inl h) =
    let left : 9999 - d ≡ suc (9998 - d) = omega (arith, h.0) in
    let found : first_free Std hs (suc d) (9999 - d) ≡ Some (suc d) = ap (λ (k : ℕ). first_free Std hs (suc d) k) left
    ∙ first_is hs (suc d) (9998 - d) (subst (λ (k : ℕ). is_held (Std k) hs ≡ false) h.1 free) in
    ap (λ (o : Option ℕ). or_else o (first_free Std hs 1 9999)) found ∙ ap (λ (k : ℕ). Some k) (sym h.1)
next_by hs d m free (inr h) =
    let left : 9999 - d ≡ 0 = omega (arith, h.0) in
    let none : first_free Std hs (suc d) (9999 - d) ≡ None = ap (λ (k : ℕ). first_free Std hs (suc d) k) left in
    let found : first_free Std hs 1 9999 ≡ Some 1 = first_is hs 1 9998 (subst (λ (k : ℕ). is_held (Std k) hs ≡ false) h.1 free) in
    ap (λ (o : Option ℕ). or_else o (first_free Std hs 1 9999)) none ∙ (found ∙ ap (λ (k : ℕ). Some k) (sym h.1))

next_step : (place : ℕ) → ((drawn_at place < 9999) × (number_at place ≡ suc (drawn_at place)))
    ⊎ ((drawn_at place ≡ 9999) × (number_at place ≡ 1))
next_step zero = inl (omega arith, omega arith)
next_step (suc place) = go (eqb (number_at place) 9999) refl
  where
    go : (b : Bool) → eqb (number_at place) 9999 ≡ b → ((number_at place < 9999) × (number_at (suc place) ≡ suc (number_at place)))
        ⊎ ((number_at place ≡ 9999) × (number_at (suc place) ≡ 1))
    go true e = let last : number_at place ≡ 9999 = eqb-true _ _ e in inr (last, omega (arith, last))
    go false e = let other : number_at place ≡ 9999 → ⊥ = eqb-false _ _ e in inl (below other, above other)
      where
        below : (number_at place ≡ 9999 → ⊥) → number_at place < 9999
        below other = omega arith

        above : (number_at place ≡ 9999 → ⊥) → number_at (suc place) ≡ suc (number_at place)
        above other = omega arith

-- the next number that is drawn is that of the place
pub next_is : (hs : List OpenCommand) (i j d : ℕ) → HaveTags i hs → i + length hs ≡ j → length hs ≤ 16 → d ≡ drawn_at j
    → next_number Std hs d ≡ Some (number_at j)
next_is hs i j d h e few drawn = ap (next_number Std hs) drawn
    ∙ next_by hs (drawn_at j) (number_at j) (next_is_free hs i j h e few) (next_step j)

-- with one more at the end
pub tags_more : (hs : List OpenCommand) (i j : ℕ) (x : OpenCommand) → HaveTags i hs → i + length hs ≡ j → x.tag ≡ tag_at j
    → HaveTags i (hs ++ x ∷ [])
tags_more [] i j x h e is = (is ∙ ap tag_at (omega (arith, e)), tt)
tags_more (y ∷ hs) i j x h e is = (h.0, tags_more hs (suc i) j x h.1 (omega (arith, e)) is)

-- a calm table with one command more that has not failed
pub calm_more : (hs : List OpenCommand) (x : OpenCommand) → AreCalm hs → is_failed x.stage ≡ false → AreCalm (hs ++ x ∷ [])
calm_more [] x h e = (e, tt)
calm_more (y ∷ hs) x h e = (h.0, calm_more hs x h.1 e)

-- in a calm table each command is open
pub count_calm : (hs : List OpenCommand) → AreCalm hs → count_open hs ≡ length hs
count_calm [] h = refl
count_calm (x ∷ hs) h = if_false {A = ℕ} (is_failed x.stage) (count_open hs) (suc (count_open hs)) h.0 ∙ ap suc (count_calm hs h.1)

-- lines of plans, joined
lines_more : (place : ℕ) (ps qs : List Planned) → lines_from place (ps ++ qs) ≡ lines_from place ps ++ lines_from (place + length ps) qs
lines_more place [] qs = ap (λ (k : ℕ). lines_from k qs) (omega arith)
lines_more place (p ∷ ps) qs = ap (λ (l : List Line). record { tag = tag_at place; command = p.command } ∷ l) (lines_more (suc place) ps qs
    ∙ ap (λ (k : ℕ). lines_from (suc place) ps ++ lines_from k qs) (omega arith))

-- the lines of two plans, one after the other
pub lines_start : (ps qs : List Planned) → lines_from 0 (ps ++ qs) ≡ lines_from 0 ps ++ lines_from (length ps) qs
lines_start ps qs = lines_more 0 ps qs ∙ ap (λ (k : ℕ). lines_from 0 ps ++ lines_from k qs) (omega arith)
