-- The first line of a text and the first field of a line.
use Rattle.contact_ledger.proofs.Names.{[], ◌++◌, ◌+◌, ◌-◌, ◌<◌, ◌∙◌, ◌∷◌, ◌≡◌, ◌≤◌, ap, arith, Bool, but_last, cond, drop, drop-drop, eqb, false}
use Rattle.contact_ledger.proofs.Names.{fields_behind, length, length-drop, length-slice_split, List, ltb, ltb-false, ltb-true, None, not, Option}
use Rattle.contact_ledger.proofs.Names.{position, position_or_len, refl, rules, slice_split, slice_split_first, Some, suc, sym, take, take_all, true}
use Rattle.contact_ledger.proofs.Names.{zero, ℕ}
use Rattle.std.proofs.lemmas.Option.{cond_some}
use Rattle.std.proofs.lemmas.List.{drop_all}
use Rattle.contact_ledger.specs.Lines.{fields_of, whole_lines}

-- the first part ends at the first byte that passes
pub first_part : (p : ℕ → Bool) (bs : List ℕ) (at : ℕ) → Some at ≡ position p bs → (at < length bs)
    × (slice_split p bs ≡ take at bs ∷ slice_split p (drop (at + 1) bs))
first_part p bs at e =
    let parts = cond_some (ltb (position_or_len p bs) (length bs)) (position_or_len p bs) at (sym e) in
    let within : position_or_len p bs < length bs = ltb-true _ _ parts.0 in
    let first : slice_split p bs ≡ take (position_or_len p bs) bs ∷ slice_split p (drop (position_or_len p bs + 1) bs) =
    slice_split_first p bs 0 within in
    rw (← parts.1) (within, first)

split_alone : (p : ℕ → Bool) (x : ℕ) (xs : List ℕ) → slice_split p xs ≡ xs ∷ [] → p x ≡ false → slice_split p (x ∷ xs) ≡ (x ∷ xs) ∷ []
split_alone p x xs h e = rw (e, h)

-- without such a byte the whole is one part
split_none : (p : ℕ → Bool) (bs : List ℕ) → length bs ≤ position_or_len p bs → slice_split p bs ≡ bs ∷ []
split_none p [] h = refl
split_none p (x ∷ xs) h = go (λ l. split_none p xs l) (p x) refl h
  where
    go : (length xs ≤ position_or_len p xs → slice_split p xs ≡ xs ∷ []) → (b : Bool) → p x ≡ b
        → suc (length xs) ≤ cond (not b) (1 + position_or_len p xs) 0 → slice_split p (x ∷ xs) ≡ (x ∷ xs) ∷ []
    go rest true e l = absurd (omega arith)
    go rest false e l = split_alone p x xs (rest (omega arith)) e

pub one_part : (p : ℕ → Bool) (bs : List ℕ) → None ≡ position p bs → slice_split p bs ≡ bs ∷ []
one_part p bs e = split_none p bs (not_found (ltb (position_or_len p bs) (length bs)) _ refl e)
  where
    not_found : (t : Bool) (at : ℕ) → ltb at (length bs) ≡ t → None ≡ cond t (Some at) None → length bs ≤ at
    not_found true at t n = absurd cc
    not_found false at t n = ltb-false at _ t

but_last_more : (x : List ℕ) (parts : List (List ℕ)) (n : ℕ) → length parts ≡ n + 1 → but_last (x ∷ parts) ≡ x ∷ but_last parts
but_last_more x [] n e = absurd (omega (arith, e))
but_last_more x (y ∷ ys) n e = refl

pub line_at : (bs : List ℕ) (at : ℕ) → Some at ≡ position (λ b. eqb b 10) bs → whole_lines bs ≡ take at bs ∷ whole_lines (drop (at + 1) bs)
unfolding whole_lines
line_at bs at e = rw ((first_part (λ b. eqb b 10) bs at e).1) (but_last_more _ _ _ (length-slice_split (λ b. eqb b 10) (drop (at + 1) bs)))

pub line_none : (bs : List ℕ) → None ≡ position (λ b. eqb b 10) bs → whole_lines bs ≡ []
unfolding whole_lines
line_none bs e = rw (one_part (λ b. eqb b 10) bs e) refl

-- what precedes a space, and the fields after it
pub field_at : (bs : List ℕ) (at : ℕ) → Some at ≡ position (λ b. eqb b 32) bs → fields_of bs ≡ take at bs ∷ fields_of (drop (at + 1) bs)
unfolding fields_of
field_at bs at e = (first_part (λ b. eqb b 32) bs at e).1

pub field_none : (bs : List ℕ) → None ≡ position (λ b. eqb b 32) bs → fields_of bs ≡ bs ∷ []
unfolding fields_of
field_none bs e = one_part (λ b. eqb b 32) bs e

pub fields_empty : fields_behind [] ≡ []
unfolding fields_of
fields_empty = refl

one_more : (n : ℕ) → 1 + n ≡ suc n
one_more n = omega arith

plus_one : (n : ℕ) → n + 1 ≡ suc n
plus_one n = omega arith

-- from the first byte that passes on, the parts after it are those of the bytes after it
parts_from : (p : ℕ → Bool) (bs : List ℕ) → position_or_len p bs < length bs
    → drop 1 (slice_split p (drop (position_or_len p bs) bs)) ≡ slice_split p (drop (suc (position_or_len p bs)) bs)
parts_from p [] h = absurd (omega arith)
parts_from p (x ∷ xs) h = go (λ l. parts_from p xs l) (p x) refl h
  where
    go : (position_or_len p xs < length xs → drop 1 (slice_split p (drop (position_or_len p xs) xs))
        ≡ slice_split p (drop (suc (position_or_len p xs)) xs)) → (b : Bool) → p x ≡ b
        → cond (not b) (1 + position_or_len p xs) 0 < suc (length xs)
        → drop 1 (slice_split p (drop (cond (not b) (1 + position_or_len p xs) 0) (x ∷ xs)))
        ≡ slice_split p (drop (suc (cond (not b) (1 + position_or_len p xs) 0)) (x ∷ xs))
    go rest true e l = rw e refl
    go rest false e l = rw (one_more (position_or_len p xs)) (rest (omega arith))

parts_behind : (p : ℕ → Bool) (bs : List ℕ) (at : ℕ) → Some at ≡ position p bs
    → drop 1 (slice_split p (drop at bs)) ≡ slice_split p (drop (at + 1) bs)
parts_behind p bs at e =
    let parts = cond_some (ltb (position_or_len p bs) (length bs)) (position_or_len p bs) at (sym e) in
    let within : position_or_len p bs < length bs = ltb-true _ _ parts.0 in
    rw (← parts.1, plus_one (position_or_len p bs)) (parts_from p bs within)

pub front_at : (bs : List ℕ) (at : ℕ) → Some at ≡ position (λ b. eqb b 32) bs → fields_of bs ≡ take at bs ∷ fields_behind (drop at bs)
unfolding fields_of
front_at bs at e = (first_part (λ b. eqb b 32) bs at e).1
    ∙ ap (λ (fs : List (List ℕ)). take at bs ∷ fs) (sym (parts_behind (λ b. eqb b 32) bs at e))

pub behind_at : (bs : List ℕ) (at : ℕ) → Some at ≡ position (λ b. eqb b 32) bs → fields_behind bs ≡ fields_of (drop (at + 1) bs)
behind_at bs at e = rw (field_at bs at e) refl

pub behind_none : (bs : List ℕ) → None ≡ position (λ b. eqb b 32) bs → fields_behind bs ≡ []
behind_none bs e = rw (field_none bs e) refl

pub ruleset line_cuts = (line_at, line_none, drop-drop, take_all, drop_all, length-drop)

pub ruleset field_cuts = (front_at, behind_at, behind_none, field_none, fields_empty, drop-drop, take_all, drop_all, length-drop)
