-- The number that is drawn next is the first that is not held.
use Rattle.protocol_model.proofs.Names.{◌+◌, ◌-◌, ◌<◌, ◌∙◌, ◌≡◌, ◌≤◌, arith, Bool, eqb, eqb-false, eqb-true, false, false≢true, first_free, is_held}
use Rattle.protocol_model.proofs.Names.{List, next_number, None, OpenCommand, Option, or_else, refl, Some, subst, suc, sym, Tag, true, zero, ℕ}
use Rattle.protocol_model.proofs.table.Drawing.{IsFound, found, none_free}

-- ---- before the first free number all are held

before_by : (sort : ℕ → Tag) (hs : List OpenCommand) (n left m i : ℕ) (b : Bool) → is_held (sort n) hs ≡ b
    → (elim b as (λ x. Option ℕ) [ true ↦ first_free sort hs (suc n) left | false ↦ Some n ]) ≡ Some m
    → (first_free sort hs (suc n) left ≡ Some m → suc n ≤ i → i < m → is_held (sort i) hs ≡ true) → n ≤ i → i < m
    → is_held (sort i) hs ≡ true
before_by sort hs n left m i true e is deeper from below = go (eqb n i) refl
  where
    go : (b : Bool) → eqb n i ≡ b → is_held (sort i) hs ≡ true
    go true same = let equal : n ≡ i = eqb-true n i same in subst (λ (k : ℕ). is_held (sort k) hs ≡ true) equal e
    go false other = let apart : n ≡ i → ⊥ = eqb-false n i other in deeper is (omega arith) below
before_by sort hs n left m i false e is deeper from below = let same : n ≡ m = cc in absurd (omega arith)

-- the numbers from where a search begins on, below the one that it finds, are held
pub before_first : (sort : ℕ → Tag) (hs : List OpenCommand) (n left m i : ℕ) → first_free sort hs n left ≡ Some m → n ≤ i → i < m
    → is_held (sort i) hs ≡ true
before_first sort hs n zero m i is from below = absurd (cc)
before_first sort hs n (suc left) m i is from below = before_by sort hs n left m i (is_held (sort n) hs) refl is
    (before_first sort hs (suc n) left m i) from below

-- ---- the first of two searches, or the second

or_split : (a b : Option ℕ) (n : ℕ) (P : Type 0) → or_else a b ≡ Some n → (a ≡ Some n → P) → (a ≡ None → b ≡ Some n → P) → P
or_split None b n P e first other = other refl e
or_split (Some m) b n P e first other = first e

none_of : (a b : Option ℕ) → or_else a b ≡ None → b ≡ None
none_of None b e = e
none_of (Some m) b e = absurd (cc)

free_of : (sort : ℕ → Tag) (hs : List OpenCommand) (last left all n : ℕ)
    → or_else (first_free sort hs (suc last) left) (first_free sort hs 1 all) ≡ Some n → is_held (sort n) hs ≡ false
free_of sort hs last left all n e = or_split _ _ n (is_held (sort n) hs ≡ false) e
    (λ first. let f : IsFound sort hs (suc last) left n = found sort hs (suc last) left n first in f.free)
    (λ none other. let f : IsFound sort hs 1 all n = found sort hs 1 all n other in f.free)

within_of : (sort : ℕ → Tag) (hs : List OpenCommand) (last all n : ℕ)
    → or_else (first_free sort hs (suc last) (all - last)) (first_free sort hs 1 all) ≡ Some n → (1 ≤ n) × (n ≤ all)
within_of sort hs last all n e = or_split _ _ n ((1 ≤ n) × (n ≤ all)) e
    (λ first. let f : IsFound sort hs (suc last) (all - last) n = found sort hs (suc last) (all - last) n first
    in let from : suc last ≤ n = f.from in let below : n < suc last + (all - last) = f.below in (omega arith, omega arith))
    (λ none other. let f : IsFound sort hs 1 all n = found sort hs 1 all n other in let from : 1 ≤ n = f.from
    in let below : n < 1 + all = f.below in (omega arith, omega arith))

-- the first search goes up to the last number: what the second finds is before it
behind_of : (sort : ℕ → Tag) (hs : List OpenCommand) (last all n : ℕ) → first_free sort hs (suc last) (all - last) ≡ None
    → first_free sort hs 1 all ≡ Some n → last < n → ⊥
behind_of sort hs last all n none other lt =
    let f : IsFound sort hs 1 all n = found sort hs 1 all n other in
    let below : n < 1 + all = f.below in
    let held : is_held (sort n) hs ≡ true = none_free sort hs (suc last) (all - last) n none (omega arith) (omega arith) in
    false≢true (sym f.free ∙ held)

passed_of : (sort : ℕ → Tag) (hs : List OpenCommand) (last all n i : ℕ)
    → or_else (first_free sort hs (suc last) (all - last)) (first_free sort hs 1 all) ≡ Some n → last < n → last < i → i < n
    → is_held (sort i) hs ≡ true
passed_of sort hs last all n i e lt from below = or_split _ _ n (is_held (sort i) hs ≡ true) e
    (λ first. before_first sort hs (suc last) (all - last) n i first (omega arith) below)
    (λ none other. absurd (behind_of sort hs last all n none other lt))

first_is_behind : (sort : ℕ → Tag) (hs : List OpenCommand) (last left n : ℕ) → first_free sort hs (suc last) left ≡ Some n → n ≤ last → ⊥
first_is_behind sort hs last left n first le = let f : IsFound sort hs (suc last) left n = found sort hs (suc last) left n first
    in let from : suc last ≤ n = f.from in omega arith

up_of : (sort : ℕ → Tag) (hs : List OpenCommand) (last all n i : ℕ)
    → or_else (first_free sort hs (suc last) (all - last)) (first_free sort hs 1 all) ≡ Some n → n ≤ last → last < i → i ≤ all
    → is_held (sort i) hs ≡ true
up_of sort hs last all n i e le from to = or_split _ _ n (is_held (sort i) hs ≡ true) e
    (λ first. absurd (first_is_behind sort hs last (all - last) n first le))
    (λ none other. none_free sort hs (suc last) (all - last) i none (omega arith) (omega arith))

again_of : (sort : ℕ → Tag) (hs : List OpenCommand) (last all n i : ℕ)
    → or_else (first_free sort hs (suc last) (all - last)) (first_free sort hs 1 all) ≡ Some n → n ≤ last → 1 ≤ i → i < n
    → is_held (sort i) hs ≡ true
again_of sort hs last all n i e le from below = or_split _ _ n (is_held (sort i) hs ≡ true) e
    (λ first. absurd (first_is_behind sort hs last (all - last) n first le))
    (λ none other. before_first sort hs 1 all n i other from below)

spent_of : (sort : ℕ → Tag) (hs : List OpenCommand) (last left all i : ℕ)
    → or_else (first_free sort hs (suc last) left) (first_free sort hs 1 all) ≡ None → 1 ≤ i → i ≤ all → is_held (sort i) hs ≡ true
spent_of sort hs last left all i e from to = none_free sort hs 1 all i (none_of _ _ e) from (omega arith)

-- ---- the number that is drawn next

-- the number that is drawn is held by no command
pub drawn_free : (sort : ℕ → Tag) (hs : List OpenCommand) (drawn n : ℕ) → next_number sort hs drawn ≡ Some n → is_held (sort n) hs ≡ false
drawn_free sort hs drawn n e = free_of sort hs drawn (9999 - drawn) 9999 n e

-- it is from 1 to 9,999
pub drawn_within : (sort : ℕ → Tag) (hs : List OpenCommand) (drawn n : ℕ) → next_number sort hs drawn ≡ Some n → (1 ≤ n) × (n ≤ 9999)
drawn_within sort hs drawn n e = within_of sort hs drawn 9999 n e

-- if it is above the last one, those between are held
pub drawn_passed : (sort : ℕ → Tag) (hs : List OpenCommand) (drawn n i : ℕ) → next_number sort hs drawn ≡ Some n → drawn < n → drawn < i
    → i < n
    → is_held (sort i) hs ≡ true
drawn_passed sort hs drawn n i e lt from below = passed_of sort hs drawn 9999 n i e lt from below

-- if it is not, all above the last one are held
pub drawn_up : (sort : ℕ → Tag) (hs : List OpenCommand) (drawn n i : ℕ) → next_number sort hs drawn ≡ Some n → n ≤ drawn → drawn < i
    → i ≤ 9999
    → is_held (sort i) hs ≡ true
drawn_up sort hs drawn n i e le from to = up_of sort hs drawn 9999 n i e le from to

-- and those below it
pub drawn_again : (sort : ℕ → Tag) (hs : List OpenCommand) (drawn n i : ℕ) → next_number sort hs drawn ≡ Some n → n ≤ drawn → 1 ≤ i → i < n
    → is_held (sort i) hs ≡ true
drawn_again sort hs drawn n i e le from below = again_of sort hs drawn 9999 n i e le from below

-- if none is drawn, all are held
pub drawn_spent : (sort : ℕ → Tag) (hs : List OpenCommand) (drawn i : ℕ) → next_number sort hs drawn ≡ None → 1 ≤ i → i ≤ 9999
    → is_held (sort i) hs ≡ true
drawn_spent sort hs drawn i e from to = spent_of sort hs drawn (9999 - drawn) 9999 i e from to
