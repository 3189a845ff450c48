-- When a record is not of a program (this profile).
use Rattle.std.specs.Prelude.{◌≡◌, ℕ, take, List, slice_get, Option, Some, None}
use Rattle.dmis_program.specs.declared.features.Wanted.{Wanted}

-- the label of a feature of the program, or that of the record's if the program has none there
abbrev pub label_of : Option Wanted → Option Wanted → Option (List ℕ)
label_of (Some w) asked = Some w.label
label_of None (Some a) = Some a.label
label_of None None = None

-- this is the label at the first place at which the features asked are not those wanted: those before it are the same, and there they
-- differ, or one of the lists has no feature
pub record IsFirstOther (asked wanted : List Wanted) (label : List ℕ) : Type 0 where
  pub at : ℕ
  pub same : take at asked ≡ take at wanted
  pub other : slice_get asked at ≡ slice_get wanted at → ⊥
  pub label_is : Some label ≡ label_of (slice_get wanted at) (slice_get asked at)
