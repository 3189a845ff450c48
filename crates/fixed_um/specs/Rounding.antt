-- Rounding of fractions of natural numbers, halves up: the readers' own step. Public clauses cite Numerals instead.
use Rattle.std.specs.Prelude.{ℕ, ◌+◌, ◌*◌, ◌<◌, ◌≤◌}

-- m is a / b rounded to a whole number, a half up
pub record RoundsUp (a b m : ℕ) : Type 0 where
  pub below : 2 * a < (2 * m + 1) * b
  pub above : 2 * m * b ≤ 2 * a + b
