-- The zero point, and sums and differences of points, axis by axis.
use Rattle.std.specs.Prelude.{◌≤◌, pos, unsigned_abs, ◌+ℤ◌, ◌-ℤ◌, neg_ℤ}
use Rattle.fixed_um.specs.Limits.{volume_limit}
use Rattle.fixed_um.specs.declared.lengths.Point.{Point}

-- the zero point of the axes, and no displacement
abbrev pub zero_point : Point
zero_point = record { x = pos 0; y = pos 0; z = pos 0 }

-- the point moved by another
abbrev pub point_sum : Point → Point → Point
point_sum p by = record { x = p.x +ℤ by.x; y = p.y +ℤ by.y; z = p.z +ℤ by.z }

-- the point as seen from another
abbrev pub point_difference : Point → Point → Point
point_difference p by = record { x = p.x -ℤ by.x; y = p.y -ℤ by.y; z = p.z -ℤ by.z }

-- the point with each sign turned
abbrev pub point_opposite : Point → Point
point_opposite p = record { x = neg_ℤ p.x; y = neg_ℤ p.y; z = neg_ℤ p.z }

-- each axis is within the machine's volume
pub record IsInVolume (p : Point) : Type 0 where
  pub x : unsigned_abs p.x ≤ volume_limit
  pub y : unsigned_abs p.y ≤ volume_limit
  pub z : unsigned_abs p.z ≤ volume_limit
