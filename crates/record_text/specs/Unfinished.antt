-- What a reader holds of the head of a record. No public clause cites this.
use Rattle.std.specs.Prelude.{ℕ, List, Option}
use Rattle.dmis_program.specs.declared.features.Touch.{Touch}
use Rattle.dmis_program.specs.declared.features.Wanted.{Wanted}

-- a feature some of whose touches were read
pub record Unfinished : Type 0 where
  pub label : List ℕ
  pub count : ℕ
  pub touches : List Touch

-- the part, if one was given, and the features that were asked
pub record Asking : Type 0 where
  pub part : Option (List ℕ)
  pub asked : List Wanted
