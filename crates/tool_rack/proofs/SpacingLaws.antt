-- The fields of a line are what its spaces separate.
use Rattle.std.proofs.Common.{◌≡◌, ℕ, zero, suc, ◌-◌, ◌<◌, Bool, true, false, not, ◌||◌, eqb, List, [], ◌∷◌, ◌++◌, length, slice_index}
use Rattle.std.proofs.Common.{refl, ap, ◌∙◌, arith}
use Rattle.std.specs.List.{slice_split, list_all, repeat}
use Rattle.std.proofs.lemmas.Bool.{ne_eqb, eqb-true, and_parts}
use Rattle.tool_rack.specs.Fields.{fields_of, has_outer_space}
use Rattle.tool_rack.specs.Spacing.{IsField, IsSpaced}

abbrev is_space : ℕ → Bool
is_space b = eqb b 32

not_not : (b : Bool) → not b ≡ true → b ≡ false
not_not true e = absurd cc
not_not false e = refl

-- ---- fields with spaces between them are the fields of their line

pieces_behind : (field rest : List ℕ) → list_all (λ b. not (is_space b)) field ≡ true
    → slice_split is_space (field ++ (32 ∷ rest)) ≡ field ∷ slice_split is_space rest
pieces_behind [] rest h = refl
pieces_behind (x ∷ xs) rest h =
    let p = and_parts (not (is_space x)) (list_all (λ b. not (is_space b)) xs) h in
    rw (not_not (is_space x) p.0, pieces_behind xs rest p.1) refl

pieces_alone : (field : List ℕ) → list_all (λ b. not (is_space b)) field ≡ true → slice_split is_space field ≡ field ∷ []
pieces_alone [] h = refl
pieces_alone (x ∷ xs) h =
    let p = and_parts (not (is_space x)) (list_all (λ b. not (is_space b)) xs) h in
    rw (not_not (is_space x) p.0, pieces_alone xs p.1) refl

full : (field : List ℕ) → IsField field → eqb (length field) 0 ≡ false
full field h = let s = h.some in ne_eqb (length field) 0 (λ z. omega arith)

pub fields_behind : (field rest : List ℕ) → IsField field → fields_of (field ++ (32 ∷ rest)) ≡ field ∷ fields_of rest
unfolding fields_of
fields_behind field rest h = rw (pieces_behind field rest h.free, full field h) refl

pub fields_alone : (field : List ℕ) → IsField field → fields_of field ≡ field ∷ []
unfolding fields_of
fields_alone field h = rw (pieces_alone field h.free, full field h) refl

fields_past : (n : ℕ) (rest : List ℕ) → fields_of (repeat n (32 ∷ []) ++ rest) ≡ fields_of rest
unfolding fields_of
fields_past zero rest = refl
fields_past (suc n) rest = fields_past n rest

pub spaced_fields : (line : List ℕ) (fields : List (List ℕ)) → IsSpaced line fields → fields_of line ≡ fields
spaced_fields line [] h = absurd h
spaced_fields line (field ∷ []) h = rw h.0 (fields_alone field h.1)
spaced_fields line (field ∷ next ∷ fields) h =
    let rest : fields_of (repeat h.1 (32 ∷ []) ++ h.0) ≡ next ∷ fields = fields_past h.1 h.0 ∙ spaced_fields h.0 (next ∷ fields) h.4 in
    rw h.2 (fields_behind field (repeat h.1 (32 ∷ []) ++ h.0) h.3 ∙ ap (λ (fs : List (List ℕ)). field ∷ fs) rest)

-- ---- a line without a space at its ends is its fields and spaces

-- whether the last byte is there and no space
abbrev ends_free : List ℕ → Bool
ends_free [] = false
ends_free (x ∷ []) = not (is_space x)
ends_free (x ∷ y ∷ ys) = ends_free (y ∷ ys)

-- fields and spaces from here on, or after spaces
data Ending (xs : List ℕ) : Type 0 where
  here : (fields : List (List ℕ)) → IsSpaced xs fields → Ending xs
  behind : (spaces : ℕ) (rest : List ℕ) (fields : List (List ℕ)) → xs ≡ 32 ∷ (repeat spaces (32 ∷ []) ++ rest) → IsSpaced rest fields
      → Ending xs

longer_field : (x : ℕ) (field : List ℕ) → is_space x ≡ false → IsField field → IsField (x ∷ field)
longer_field x field e h = record { some = omega arith; free = rw e h.free }

-- one byte before the first field
longer : (x : ℕ) (xs : List ℕ) (fields : List (List ℕ)) → is_space x ≡ false → IsSpaced xs fields → (all : List (List ℕ))
    × IsSpaced (x ∷ xs) all
longer x xs [] e h = absurd h
longer x xs (field ∷ []) e h = ((x ∷ field) ∷ [], (ap (λ (r : List ℕ). x ∷ r) h.0, longer_field x field e h.1))
longer x xs (field ∷ next ∷ fields) e h = (
  (x ∷ field) ∷ next ∷ fields,
  (h.0, h.1, ap (λ (r : List ℕ). x ∷ r) h.2, longer_field x field e h.3, h.4),
)

one_byte : (x : ℕ) → is_space x ≡ false → IsField (x ∷ [])
one_byte x e = record { some = omega arith; free = rw e refl }

-- one byte before spaces
before_spaces : (x : ℕ) (xs : List ℕ) (spaces : ℕ) (rest : List ℕ) (fields : List (List ℕ)) → is_space x ≡ false
    → xs ≡ 32 ∷ (repeat spaces (32 ∷ []) ++ rest) → IsSpaced rest fields → IsSpaced (x ∷ xs) ((x ∷ []) ∷ fields)
before_spaces x xs spaces rest [] e f h = absurd h
before_spaces x xs spaces rest (next ∷ fields) e f h = (rest, spaces, ap (λ (r : List ℕ). x ∷ r) f, one_byte x e, h)

field_front : (x : ℕ) (xs : List ℕ) → is_space x ≡ false → Ending xs → Ending (x ∷ xs)
field_front x xs e (here fields h) = let l = longer x xs fields e h in here l.0 l.1
field_front x xs e (behind spaces rest fields f h) = here ((x ∷ []) ∷ fields) (before_spaces x xs spaces rest fields e f h)

space_front : (x : ℕ) (xs : List ℕ) → x ≡ 32 → Ending xs → Ending (x ∷ xs)
space_front x xs e (here fields h) = behind 0 xs fields (ap (λ (b : ℕ). b ∷ xs) e) h
space_front x xs e (behind spaces rest fields f h) = behind (suc spaces) rest fields (rw (e, f) refl) h

ending : (x : ℕ) (xs : List ℕ) → ends_free (x ∷ xs) ≡ true → Ending (x ∷ xs)
ending x [] h = here ((x ∷ []) ∷ []) (refl, one_byte x (not_not (is_space x) h))
ending x (y ∷ ys) h = by_front (is_space x) refl (ending y ys h)
  where
    by_front : (b : Bool) → is_space x ≡ b → Ending (y ∷ ys) → Ending (x ∷ y ∷ ys)
    by_front true e r = space_front x (y ∷ ys) (eqb-true x 32 e) r
    by_front false e r = field_front x (y ∷ ys) e r

-- no space is in front
from_front : (x : ℕ) (xs : List ℕ) → is_space x ≡ false → Ending (x ∷ xs) → IsSpaced (x ∷ xs) (fields_of (x ∷ xs))
from_front x xs e (here fields h) = rw (spaced_fields (x ∷ xs) fields h) h
from_front x xs e (behind spaces rest fields f h) = absurd cc

last_free : (x : ℕ) (xs : List ℕ) → eqb (slice_index (x ∷ xs) (length (x ∷ xs) - 1)) 32 ≡ false → ends_free (x ∷ xs) ≡ true
last_free x [] h = rw h refl
last_free x (y ∷ ys) h =
    let at : length (x ∷ y ∷ ys) - 1 ≡ suc (length (y ∷ ys) - 1) = omega arith in
    last_free y ys (rw at at h)

or_parts : (a b : Bool) → (a || b) ≡ false → (a ≡ false) × (b ≡ false)
or_parts true b h = absurd cc
or_parts false b h = (refl, h)

pub fields_whole : (line : List ℕ) → 0 < length line → has_outer_space line ≡ false → IsSpaced line (fields_of line)
fields_whole [] n h = absurd (omega arith)
fields_whole (x ∷ xs) n h =
    let p = or_parts (eqb (slice_index (x ∷ xs) 0) 32) (eqb (slice_index (x ∷ xs) (length (x ∷ xs) - 1)) 32) h in
    from_front x xs p.0 (ending x xs (last_free x xs p.1))
