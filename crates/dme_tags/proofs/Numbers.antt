-- The first number that is free, one number further.
use Rattle.dme_tags.proofs.Names.{◌+◌, ◌-◌, ◌<◌, ◌∙◌, ◌≡◌, ◌≤◌, add-one, ap, arith, Bool, eqb, eqb-false, eqb-true, false, first_free, is_held, List}
use Rattle.dme_tags.proofs.Names.{next_number, None, OpenCommand, Option, or_else, refl, Some, subst, suc, sym, Tag, true, ℕ}

abbrev chosen : (sort : ℕ → Tag) (hs : List OpenCommand) (n left : ℕ) → Bool → Option ℕ
chosen sort hs n left b = elim b as (λ x. Option ℕ) [ true ↦ first_free sort hs (suc n) left | false ↦ Some n ]

step : (sort : ℕ → Tag) (hs : List OpenCommand) (n left : ℕ) (b : Bool) → is_held (sort n) hs ≡ b
    → first_free sort hs n (suc left) ≡ chosen sort hs n left b
step sort hs n left b e = ap (chosen sort hs n left) e

less : (n bound : ℕ) → n < bound → bound - n ≡ suc (bound - suc n)
less n bound h = omega arith

pub free_here : (sort : ℕ → Tag) (hs : List OpenCommand) (n bound : ℕ) → n < bound → is_held (sort n) hs ≡ false
    → first_free sort hs n (bound - n) ≡ Some n
free_here sort hs n bound h e = ap (first_free sort hs n) (less n bound h) ∙ step sort hs n (bound - suc n) false e

pub held_here : (sort : ℕ → Tag) (hs : List OpenCommand) (n bound : ℕ) → n < bound → is_held (sort n) hs ≡ true
    → first_free sort hs n (bound - n) ≡ first_free sort hs (suc n) (bound - suc n)
held_here sort hs n bound h e = ap (first_free sort hs n) (less n bound h) ∙ step sort hs n (bound - suc n) true e

pub none_left : (sort : ℕ → Tag) (hs : List OpenCommand) (n bound : ℕ) → bound ≤ n → first_free sort hs n (bound - n) ≡ None
none_left sort hs n bound h = let none : bound - n ≡ 0 = omega arith in ap (first_free sort hs n) none

-- ---- the next number, of that many

same : (sort : ℕ → Tag) (hs : List OpenCommand) (d bound : ℕ) → first_free sort hs (d + 1) (suc bound - (d + 1))
    ≡ first_free sort hs (suc d) (bound - d)
same sort hs d bound =
    let left : suc bound - (d + 1) ≡ bound - d = omega arith in
    let next : d + 1 ≡ suc d = omega arith in
    ap (λ (n : ℕ). first_free sort hs n (suc bound - (d + 1))) next ∙ ap (first_free sort hs (suc d)) left

first_of : (sort : ℕ → Tag) (hs : List OpenCommand) (d bound n : ℕ) → Some n ≡ first_free sort hs (d + 1) (suc bound - (d + 1))
    → Some n ≡ or_else (first_free sort hs (suc d) (bound - d)) (first_free sort hs 1 bound)
first_of sort hs d bound n is = ap (λ (o : Option ℕ). or_else o (first_free sort hs 1 bound)) (is ∙ same sort hs d bound)

again_of : (sort : ℕ → Tag) (hs : List OpenCommand) (d bound : ℕ) (r : Option ℕ) → None ≡ first_free sort hs (d + 1) (suc bound - (d + 1))
    → r ≡ first_free sort hs 1 bound → r ≡ or_else (first_free sort hs (suc d) (bound - d)) (first_free sort hs 1 bound)
again_of sort hs d bound r none is = is ∙ ap (λ (o : Option ℕ). or_else o (first_free sort hs 1 bound)) (none ∙ same sort hs d bound)

-- ---- the next number

pub next_first : (sort : ℕ → Tag) (hs : List OpenCommand) (d n : ℕ) → Some n ≡ first_free sort hs (d + 1) (10000 - (d + 1))
    → Some n ≡ next_number sort hs d
next_first sort hs d n is = first_of sort hs d 9999 n is

pub next_again : (sort : ℕ → Tag) (hs : List OpenCommand) (d : ℕ) (r : Option ℕ) → None ≡ first_free sort hs (d + 1) (10000 - (d + 1))
    → r ≡ first_free sort hs 1 (10000 - 1) → r ≡ next_number sort hs d
next_again sort hs d r none is = again_of sort hs d 9999 r none is

pub held_next : (sort : ℕ → Tag) (hs : List OpenCommand) (n bound : ℕ) → n < bound → is_held (sort n) hs ≡ true
    → first_free sort hs n (bound - n) ≡ first_free sort hs (n + 1) (bound - (n + 1))
held_next sort hs n bound h e = held_here sort hs n bound h e ∙ ap (λ (k : ℕ). first_free sort hs k (bound - k)) (sym (add-one n))

pub held_more : (sort : ℕ → Tag) (hs : List OpenCommand) (from n : ℕ) → ((k : ℕ) → from ≤ k → k < n → is_held (sort k) hs ≡ true)
    → is_held (sort n) hs ≡ true
    → (k : ℕ) → from ≤ k → k < n + 1 → is_held (sort k) hs ≡ true
held_more sort hs from n before here k above below = go (eqb k n) refl
  where
    go : (b : Bool) → eqb k n ≡ b → is_held (sort k) hs ≡ true
    go true same = subst (λ (j : ℕ). is_held (sort j) hs ≡ true) (sym (eqb-true k n same)) here
    go false other = let apart : k ≡ n → ⊥ = eqb-false k n other in before k above (omega arith)
