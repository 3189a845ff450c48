-- Fields with spaces between them, as a relation: what a law of this crate ties the fields of a line to (this profile). A space is 32.
use Rattle.std.specs.Prelude.{◌≡◌, ℕ, ◌<◌, true, not, ◌==◌, List, [], ◌∷◌, ◌++◌, length}
use Rattle.std.specs.List.{list_all, repeat}

-- at least one byte, and none of them a space
pub record IsField (field : List ℕ) : Type 0 where
  pub some : 0 < length field
  pub free : list_all (λ b. not (b == 32)) field ≡ true

-- the line is these fields with one or more spaces between each two, and nothing else
abbrev pub IsSpaced : List ℕ → List (List ℕ) → Type 0
IsSpaced line [] = ⊥
IsSpaced line (field ∷ []) = (line ≡ field) × IsField field
IsSpaced line (field ∷ next ∷ fields) = (rest : List ℕ) × (spaces : ℕ) × (line ≡ field ++ (32 ∷ (repeat spaces (32 ∷ []) ++ rest)))
    × IsField field × IsSpaced rest (next ∷ fields)
