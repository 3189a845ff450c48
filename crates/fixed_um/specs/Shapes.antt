-- Directions as contracts see them.
use Rattle.std.specs.Prelude.{◌≡◌, ◌≤◌, ℤ, pos, unsigned_abs}
use Rattle.fixed_um.specs.Limits.{component_limit}

-- the components of a direction, in millionths
pub record Direction : Type 0 where
  pub i : ℤ
  pub j : ℤ
  pub k : ℤ

-- each component is within the limit, and not all are zero
pub record IsDirection (d : Direction) : Type 0 where
  pub i_within : unsigned_abs d.i ≤ component_limit
  pub j_within : unsigned_abs d.j ≤ component_limit
  pub k_within : unsigned_abs d.k ≤ component_limit
  pub not_zero : d.i ≡ pos 0 → d.j ≡ pos 0 → d.k ≡ pos 0 → ⊥
