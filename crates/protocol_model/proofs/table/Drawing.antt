-- Tags that are drawn: a drawn one is not held, and there is one where fewer are held than there are.
use Rattle.protocol_model.proofs.Names.{[], ◌+◌, ◌<◌, ◌∙◌, ◌∷◌, ◌≡◌, ◌≤◌, ap, arith, Bool, cond, count_open, eqb, eqb-false, eqb-true, false}
use Rattle.protocol_model.proofs.Names.{false≢true, first_free, is_failed, is_held, le_refl, length, List, ne_eqb, None, OpenCommand, Option, or_else}
use Rattle.protocol_model.proofs.Names.{refl, Some, Std, subst, suc, sym, Tag, tag_is, true, zero, ℕ}
use Rattle.dme_line.specs.declared.tags.Tag.TheVariants.{Event}
use Rattle.protocol_model.proofs.table.Basics.{if_cases, if_true, if_false, tag_is-true}
use Rattle.protocol_model.proofs.table.Counts.{failed_tags}

-- a number that is found is free, and none is found only if all are held
pub record IsFound (sort : ℕ → Tag) (hs : List OpenCommand) (n left m : ℕ) : Type 0 where
  pub free : is_held (sort m) hs ≡ false
  pub from : n ≤ m
  pub below : m < n + left

found_by : (sort : ℕ → Tag) (hs : List OpenCommand) (n left m : ℕ) (b : Bool) → is_held (sort n) hs ≡ b
    → (elim b as (λ x. Option ℕ) [ true ↦ first_free sort hs (suc n) left | false ↦ Some n ]) ≡ Some m
    → (first_free sort hs (suc n) left ≡ Some m → IsFound sort hs (suc n) left m) → IsFound sort hs n (suc left) m
found_by sort hs n left m true e is deeper = let f : IsFound sort hs (suc n) left m = deeper is
    in record { free = f.free; from = omega (arith, f.from); below = omega (arith, f.below) }
found_by sort hs n left m false e is deeper = let same : n ≡ m = cc
    in record { free = subst (λ (k : ℕ). is_held (sort k) hs ≡ false) same e; from = omega arith; below = omega arith }

-- the number that is found is free, and those before it are held
pub found : (sort : ℕ → Tag) (hs : List OpenCommand) (n left m : ℕ) → first_free sort hs n left ≡ Some m → IsFound sort hs n left m
found sort hs n zero m is = absurd (cc)
found sort hs n (suc left) m is = found_by sort hs n left m (is_held (sort n) hs) refl is (found sort hs (suc n) left m)

none_by : (sort : ℕ → Tag) (hs : List OpenCommand) (n left i : ℕ) (b : Bool) → is_held (sort n) hs ≡ b
    → (elim b as (λ x. Option ℕ) [ true ↦ first_free sort hs (suc n) left | false ↦ Some n ]) ≡ None
    → (first_free sort hs (suc n) left ≡ None → suc n ≤ i → i < suc n + left → is_held (sort i) hs ≡ true) → n ≤ i → i < n + suc left
    → is_held (sort i) hs ≡ true
none_by sort hs n left i true e is deeper from below = go (eqb n i) refl
  where
    go : (b : Bool) → eqb n i ≡ b → is_held (sort i) hs ≡ true
    go true same = let equal : n ≡ i = eqb-true n i same in subst (λ (k : ℕ). is_held (sort k) hs ≡ true) equal e
    go false other = let apart : n ≡ i → ⊥ = eqb-false n i other in deeper is (omega arith) (omega arith)
none_by sort hs n left i false e is deeper from below = absurd (cc)

-- if none is found, each of these numbers is held
pub none_free : (sort : ℕ → Tag) (hs : List OpenCommand) (n left i : ℕ) → first_free sort hs n left ≡ None → n ≤ i → i < n + left
    → is_held (sort i) hs ≡ true
none_free sort hs n zero i is from below = absurd (go from below)
  where
    go : n ≤ i → i < n + zero → ⊥
    go a b = omega arith
none_free sort hs n (suc left) i is from below = none_by sort hs n left i (is_held (sort n) hs) refl is (none_free sort hs (suc n) left i)
    from below

-- ---- that many tags are held by that many commands

-- without the first command of a tag
abbrev removed : Tag → List OpenCommand → List OpenCommand
removed t [] = []
removed t (h ∷ hs) = cond (tag_is h.tag t) hs (h ∷ removed t hs)

removed_length : (t : Tag) (hs : List OpenCommand) → is_held t hs ≡ true → suc (length (removed t hs)) ≡ length hs
removed_length t [] e = absurd (false≢true e)
removed_length t (h ∷ hs) e = if_cases {A = Bool} (tag_is h.tag t) true (is_held t hs) true
    (suc (length (removed t (h ∷ hs))) ≡ suc (length hs)) e
    (λ same is. ap (λ (l : List OpenCommand). suc (length l)) (if_true {A = List OpenCommand} (tag_is h.tag t) hs (h ∷ removed t hs) same))
    (λ other is. ap (λ (l : List OpenCommand). suc (length l))
    (if_false {A = List OpenCommand} (tag_is h.tag t) hs (h ∷ removed t hs) other)
    ∙ ap suc (removed_length t hs is))

held_cons : (u : Tag) (h : OpenCommand) (hs : List OpenCommand) (b : Bool) → is_held u hs ≡ true → cond b true (is_held u hs) ≡ true
held_cons u h hs true e = refl
held_cons u h hs false e = e

still_held : (t u : Tag) (hs : List OpenCommand) → tag_is t u ≡ false → is_held u hs ≡ true → is_held u (removed t hs) ≡ true
still_held t u [] apart e = e
still_held t u (h ∷ hs) apart e = go (still_held t u hs apart) (tag_is h.tag t) refl (tag_is h.tag u) refl
  where
    go : (is_held u hs ≡ true → is_held u (removed t hs) ≡ true) → (b : Bool) → tag_is h.tag t ≡ b → (c : Bool) → tag_is h.tag u ≡ c
        → is_held u (cond b hs (h ∷ removed t hs)) ≡ true
    go deeper true same true other =
        let one : h.tag ≡ t = tag_is-true h.tag t same in
        let both : tag_is t u ≡ true = subst (λ (v : Tag). tag_is v u ≡ true) one other in
        absurd (false≢true (sym apart ∙ both))
    go deeper true same false other = sym (if_false {A = Bool} (tag_is h.tag u) true (is_held u hs) other) ∙ e
    go deeper false same true other = if_true {A = Bool} (tag_is h.tag u) true (is_held u (removed t hs)) other
    go deeper false same false other = if_false {A = Bool} (tag_is h.tag u) true (is_held u (removed t hs)) other
        ∙ deeper (sym (if_false {A = Bool} (tag_is h.tag u) true (is_held u hs) other) ∙ e)

-- if each of that many different tags is held, at least that many are held
abbrev pub AreApart : (ℕ → Tag) → Type 0
AreApart sort = (i j : ℕ) → (i ≡ j → ⊥) → tag_is (sort i) (sort j) ≡ false

pub many_held : (sort : ℕ → Tag) → AreApart sort → (hs : List OpenCommand) (n left : ℕ)
    → ((i : ℕ) → n ≤ i → i < n + left → is_held (sort i) hs ≡ true) → left ≤ length hs
many_held sort apart hs n zero all = omega arith
many_held sort apart hs n (suc left) all =
    let here : is_held (sort n) hs ≡ true = all n (le_refl n) (omega arith) in
    let rest : left ≤ length (removed (sort n) hs) = many_held sort apart (removed (sort n) hs) (suc n) left
    (λ i from below. still_held (sort n) (sort i) hs (apart n i (λ (e : n ≡ i). too_far i from e)) (all i (omega arith) (omega arith)))
    in
    omega (arith, removed_length (sort n) hs here)
  where
    too_far : (i : ℕ) → suc n ≤ i → n ≡ i → ⊥
    too_far i from e = omega arith

-- standard tags of different numbers are different
pub standard_apart : AreApart Std
standard_apart i j apart = ne_eqb i j apart

-- event tags of different numbers are different
pub event_apart : AreApart Event
event_apart i j apart = ne_eqb i j apart

-- ---- the next number

-- a number that was drawn: free, and from 1 on
pub record IsDrawn (sort : ℕ → Tag) (hs : List OpenCommand) (n : ℕ) : Type 0 where
  pub free : is_held (sort n) hs ≡ false
  pub from : 1 ≤ n

-- the first of two numbers that is there is the one or the other
pub or_cases : (a b : Option ℕ) (n : ℕ) (P : Type 0) → or_else a b ≡ Some n → (a ≡ Some n → P) → (b ≡ Some n → P) → P
or_cases None b n P e first other = other e
or_cases (Some m) b n P e first other = first e

or_none : (a b : Option ℕ) → or_else a b ≡ None → b ≡ None
or_none None b e = e
or_none (Some m) b e = absurd (cc)

-- what is drawn in two rounds is such a number
pub drawn : (sort : ℕ → Tag) (hs : List OpenCommand) (last left all n : ℕ)
    → or_else (first_free sort hs (suc last) left) (first_free sort hs 1 all) ≡ Some n → IsDrawn sort hs n
drawn sort hs last left all n e = or_cases _ _ n (IsDrawn sort hs n) e
    (λ first. let f : IsFound sort hs (suc last) left n = found sort hs (suc last) left n first
    in record { free = f.free; from = omega (arith, f.from) })
    (λ other. let f : IsFound sort hs 1 all n = found sort hs 1 all n other in record { free = f.free; from = f.from })

-- if none is drawn, as many tags are held as there are
pub none_drawn : (sort : ℕ → Tag) (hs : List OpenCommand) (last left all : ℕ) → AreApart sort
    → or_else (first_free sort hs (suc last) left) (first_free sort hs 1 all) ≡ None → all ≤ length hs
none_drawn sort hs last left all apart e = many_held sort apart hs 1 all
    (λ i from below. none_free sort hs 1 all i (or_none _ _ e) from below)

-- ---- few are held

length_by : (b : Bool) (t : Tag) (ts : List Tag) (n m : ℕ) → m ≤ n + length ts → suc m ≤ cond b n (suc n) + length (cond b (t ∷ ts) ts)
length_by true t ts n m h = omega arith
length_by false t ts n m h = omega arith

-- what is held is open or has failed
pub held_length : (hs : List OpenCommand) → length hs ≤ count_open hs + length (failed_tags hs)
held_length [] = omega arith
held_length (h ∷ hs) = length_by (is_failed h.stage) h.tag (failed_tags hs) (count_open hs) (length hs) (held_length hs)
