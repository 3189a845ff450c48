-- The lines of a list of bytes, one line at a time.
use Rattle.dmis_text.proofs.Names.{[], ◌++◌, ◌+◌, ◌-◌, ◌<◌, ◌∙◌, ◌∷◌, ◌≡◌, ◌≤◌, ap, arith, Bool, cond, cond_some, drop, drop-drop, drop_all, eqb}
use Rattle.dmis_text.proofs.Names.{false, length, length-drop, length-slice_split, lines, lines_of_parts, List, ltb, ltb-false, ltb-true, ne_eqb}
use Rattle.dmis_text.proofs.Names.{None, not, Option, position, position_or_len, refl, rules, slice_split, slice_split_first, Some}
use Rattle.dmis_text.proofs.Names.{strip_carriage_return, suc, sym, take, take_all, true, zero, ℕ}

-- the parts of a list are never none
pub lines_of_more : (x : List ℕ) (parts : List (List ℕ)) (n : ℕ) → length parts ≡ n + 1
    → lines_of_parts (x ∷ parts) ≡ strip_carriage_return x ∷ lines_of_parts parts
lines_of_more x [] n e = absurd (omega (arith, e))
lines_of_more x (y ∷ ys) n e = refl

-- the first line ends at the first LF
pub lines_at : (bs : List ℕ) (at : ℕ) → Some at ≡ position (λ b. eqb b 10) bs → (at < length bs)
    × (lines bs ≡ strip_carriage_return (take at bs) ∷ lines (drop (at + 1) bs))
lines_at bs at e =
    let parts = cond_some (ltb (position_or_len (λ b. eqb b 10) bs) (length bs)) (position_or_len (λ b. eqb b 10) bs) at (sym e) in
    let within : position_or_len (λ b. eqb b 10) bs < length bs = ltb-true _ _ parts.0 in
    let first : slice_split (λ b. eqb b 10) bs ≡ take (position_or_len (λ b. eqb b 10) bs) bs
    ∷ slice_split (λ b. eqb b 10) (drop (position_or_len (λ b. eqb b 10) bs + 1) bs) = slice_split_first (λ b. eqb b 10) bs 0 within in
    rw (← parts.1) (
      within,
      rw first (lines_of_more _ _ _ (length-slice_split (λ b. eqb b 10)
          (drop (position_or_len (λ b. eqb b 10) bs + 1) bs))),
    )

split_alone : (p : ℕ → Bool) (x : ℕ) (xs : List ℕ) → slice_split p xs ≡ xs ∷ [] → p x ≡ false → slice_split p (x ∷ xs) ≡ (x ∷ xs) ∷ []
split_alone p x xs h e = rw (e, h)

-- without a LF the whole is one part
split_none : (p : ℕ → Bool) (bs : List ℕ) → length bs ≤ position_or_len p bs → slice_split p bs ≡ bs ∷ []
split_none p [] h = refl
split_none p (x ∷ xs) h = go (λ l. split_none p xs l) (p x) refl h
  where
    go : (length xs ≤ position_or_len p xs → slice_split p xs ≡ xs ∷ []) → (b : Bool) → p x ≡ b
        → suc (length xs) ≤ cond (not b) (1 + position_or_len p xs) 0 → slice_split p (x ∷ xs) ≡ (x ∷ xs) ∷ []
    go rest true e l = absurd (omega arith)
    go rest false e l = split_alone p x xs (rest (omega arith)) e

-- and one line, unless there is no byte
pub lines_one : (bs : List ℕ) → None ≡ position (λ b. eqb b 10) bs → 0 < length bs → lines bs ≡ bs ∷ lines []
lines_one [] e h = absurd (omega arith)
lines_one (x ∷ xs) e h = rw (
  split_none (λ b. eqb b 10) (x ∷ xs)
      (not_found (ltb (position_or_len (λ b. eqb b 10) (x ∷ xs)) (length (x ∷ xs))) _ refl e),
  ne_eqb (length (x ∷ xs)) 0 (λ z. omega arith),
)
  where
    not_found : (t : Bool) (at : ℕ) → ltb at (length (x ∷ xs)) ≡ t → None ≡ cond t (Some at) None → length (x ∷ xs) ≤ at
    not_found true at t n = cc
    not_found false at t n = ltb-false at _ t

-- for the code that cuts a line
pub ruleset cuts = (lines_at, lines_one, drop-drop, take_all, drop_all, length-drop)
