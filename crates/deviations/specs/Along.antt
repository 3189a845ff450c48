-- How far a measured point lies from its nominal point: axis by axis, and along the normal of the surface.
use Rattle.std.specs.Prelude.{◌≡◌, ◌≤◌, ◌<◌, ℕ, ◌+◌, ◌-◌, ◌*◌, ℤ, pos, negsuc, ◌+ℤ◌, ◌-ℤ◌, ◌*ℤ◌, neg_ℤ, unsigned_abs}
use Rattle.fixed_um.specs.Shapes.{Direction}
use Rattle.fixed_um.specs.declared.lengths.Point.{Point}
use Rattle.deviations.specs.declared.along.Deviation.{Deviation}

-- the measured point less the nominal one, axis by axis, in micrometres
abbrev pub deviation : Point → Point → Deviation
deviation measured nominal = record { x = measured.x -ℤ nominal.x; y = measured.y -ℤ nominal.y; z = measured.z -ℤ nominal.z }

-- an axis of a deviation within this bound: a point that a wire can carry less one in the machine's volume
abbrev pub deviation_limit : ℕ
deviation_limit = 5000000000

pub record IsDeviation (v : Deviation) : Type 0 where
  pub x : unsigned_abs v.x ≤ deviation_limit
  pub y : unsigned_abs v.y ≤ deviation_limit
  pub z : unsigned_abs v.z ≤ deviation_limit

-- the scalar product of a deviation and a direction
abbrev pub scalar_product : Deviation → Direction → ℤ
scalar_product v d = v.x *ℤ d.i +ℤ v.y *ℤ d.j +ℤ v.z *ℤ d.k

-- the square of a number
abbrev pub squared : ℕ → ℕ
squared n = n * n

-- the square of a direction's length
abbrev pub squared_length : Direction → ℕ
squared_length d = squared (unsigned_abs d.i) + squared (unsigned_abs d.j) + squared (unsigned_abs d.k)

-- n is the whole number nearest to the root of s / t, halves up: 2 n - 1 halves are reached, 2 n + 1 are not. If n is 0, so is 2 n - 1
pub record IsNearestRoot (s t n : ℕ) : Type 0 where
  pub reached : squared (2 * n - 1) * t ≤ 4 * s
  pub short : 4 * s < squared (2 * n + 1) * t

-- a length with the sign of a number
abbrev pub on_side_of : ℤ → ℕ → ℤ
on_side_of (pos _) n = pos n
on_side_of (negsuc _) n = neg_ℤ (pos n)

-- r is the deviation along a direction: the scalar product divided by the direction's length, to the nearest micrometre; of two equally
-- near, the one farther from zero. That length is a root and is never taken: both sides are squared
pub record IsAlong (v : Deviation) (d : Direction) (r : ℤ) : Type 0 where
  pub near : IsNearestRoot (squared (unsigned_abs (scalar_product v d))) (squared_length d) (unsigned_abs r)
  pub side : r ≡ on_side_of (scalar_product v d) (unsigned_abs r)
