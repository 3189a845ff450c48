-- What a sink that takes few bytes at once has.
use Rattle.std.specs.Prelude.{ℕ, List, Option, Bool}

-- the bytes that were taken; the most that one push takes; how many bytes fit before it grows; how many pushes work from now on, or all;
-- whether a push has failed; how many pushes there were
pub record TakesValue : Type 0 where
  pub taken : List ℕ
  pub most : ℕ
  pub room : ℕ
  pub calls_left : Option ℕ
  pub has_failed : Bool
  pub calls : ℕ
