-- What callers see of a queue of bytes (this profile).
use Rattle.std.specs.Prelude.{ℕ, List}

-- the bytes that were appended and not taken, and room for more
pub record QueueValue : Type 0 where
  pub waiting : List ℕ
  pub room : ℕ
