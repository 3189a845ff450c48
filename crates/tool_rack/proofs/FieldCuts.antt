-- The fields of a line, one at a time.
use Rattle.std.proofs.Common.{◌≡◌, ◌≢◌, ℕ, suc, ◌+◌, ◌<◌, Bool, true, false, not, cond, eqb, List, [], ◌∷◌, length, take, drop, refl, subst, arith}
use Rattle.std.specs.List.{filter, slice_split, prefix_len}
use Rattle.std.proofs.lemmas.Bool.{ne_eqb}
use Rattle.tool_rack.specs.Fields.{fields_of}

abbrev is_space : ℕ → Bool
is_space b = eqb b 32

abbrev fields_in : List (List ℕ) → List (List ℕ)
fields_in pieces = filter (λ field. not (eqb (length field) 0)) pieces

-- the first piece, and the fields of the others
record IsCut (xs : List ℕ) (n : ℕ) : Type 0 where
  others : List (List ℕ)
  pieces : slice_split is_space xs ≡ take n xs ∷ others
  same : fields_in (slice_split is_space (drop n xs)) ≡ fields_in others

cut_here : (x : ℕ) (xs : List ℕ) → is_space x ≡ true → IsCut (x ∷ xs) 0
cut_here x xs e = record { others = slice_split is_space xs; pieces = rw e refl; same = rw e refl }

cut_behind : (x : ℕ) (xs : List ℕ) (n : ℕ) → is_space x ≡ false → IsCut xs n → IsCut (x ∷ xs) (suc n)
cut_behind x xs n e c = record { others = c.others; pieces = rw (e, c.pieces) refl; same = c.same }

cut_later : (x : ℕ) (xs : List ℕ) (n : ℕ) → is_space x ≡ false → IsCut xs n → IsCut (x ∷ xs) (1 + n)
cut_later x xs n e c =
    let one : suc n ≡ 1 + n = omega arith in
    subst (IsCut (x ∷ xs)) one (cut_behind x xs n e c)

cut_first : (xs : List ℕ) → IsCut xs (prefix_len (λ b. not (is_space b)) xs)
cut_first [] = record { others = []; pieces = refl; same = refl }
cut_first (x ∷ xs) = go (cut_first xs) (is_space x) refl
  where
    go : IsCut xs (prefix_len (λ b. not (is_space b)) xs) → (b : Bool) → is_space x ≡ b
        → IsCut (x ∷ xs) (cond (not b) (1 + prefix_len (λ b. not (is_space b)) xs) 0)
    go c true e = cut_here x xs e
    go c false e = cut_later x xs _ e c

pub fields_none : fields_of [] ≡ []
unfolding fields_of
fields_none = refl

pub fields_empty : (xs : List ℕ) → length xs ≡ 0 → fields_of xs ≡ []
fields_empty [] h = fields_none
fields_empty (x ∷ xs) h = absurd (omega arith)

pub fields_pass : (xs : List ℕ) → fields_of (32 ∷ xs) ≡ fields_of xs
unfolding fields_of
fields_pass xs = refl

one_more : (m : ℕ) → 1 + m ≡ suc m
one_more m = omega arith

prefix_later : (x : ℕ) (xs : List ℕ) → eqb x 32 ≡ false → prefix_len (λ b. not (eqb b 32)) (x ∷ xs)
    ≡ suc (prefix_len (λ b. not (eqb b 32)) xs)
prefix_later x xs e = rw e (one_more _)

field_first : (x : ℕ) (xs : List ℕ) (m : ℕ) → eqb x 32 ≡ false → IsCut xs m
    → fields_of (x ∷ xs) ≡ take (suc m) (x ∷ xs) ∷ fields_of (drop (suc m) (x ∷ xs))
unfolding fields_of
field_first x xs m other c =
    let full : eqb (length (x ∷ take m xs)) 0 ≡ false = ne_eqb (length (x ∷ take m xs)) 0 (λ z. omega arith) in
    rw (other, c.pieces, full, c.same) refl

-- a piece that begins with no space is a field
pub fields_cut : (xs : List ℕ) (n : ℕ) → n ≡ prefix_len (λ b. not (eqb b 32)) xs → 0 < length xs
    → ((c : ℕ) (more : List ℕ) → xs ≡ c ∷ more → c ≢ 32) → fields_of xs ≡ take n xs ∷ fields_of (drop n xs)
fields_cut [] n e h f = absurd (omega arith)
fields_cut (x ∷ xs) n e h f =
    let other : eqb x 32 ≡ false = ne_eqb x 32 (f x xs refl) in
    rw (e, prefix_later x xs other) (field_first x xs (prefix_len (λ b. not (is_space b)) xs) other (cut_first xs))

pub ruleset cuts = (fields_empty, fields_cut)

pub ruleset passes = fields_pass
