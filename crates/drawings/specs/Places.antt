-- Positions in machine axes, and the spans that they fill along one axis.
use Rattle.std.specs.Prelude.{ℕ, ℤ, Option, ◌+ℤ◌, ◌-ℤ◌, ◌≤ℤ◌, unsigned_abs, int_lt, if◌then◌else◌}
use Rattle.deviations.specs.Along.{deviation}
use Rattle.deviations.specs.declared.along.Deviation.{Deviation}
use Rattle.dmis_program.specs.declared.features.Touch.{Touch}
use Rattle.fixed_um.specs.Shapes.{Direction}
use Rattle.fixed_um.specs.declared.lengths.Point.{Point}
use Rattle.drawings.specs.declared.places.Place.{Place}

-- a coordinate in machine axes, in micrometres: a wire coordinate plus a frame's zero point, which is also one
abbrev pub machine_limit : ℕ
machine_limit = 8000000000

-- a point in a frame's axes, seen in the machine's: axes of frames are parallel to those of the machine
abbrev pub place_of : Point → Point → Place
place_of p origin = record { x = p.x +ℤ origin.x; y = p.y +ℤ origin.y; z = p.z +ℤ origin.z }

-- how far a measured point lies from the target of its touch, and the normal of the surface there, if the program gives one
pub record Gap : Type 0 where
  pub deviation : Deviation
  pub normal : Option Direction

abbrev pub gap_of : Point → Touch → Gap
gap_of measured t = record { deviation = deviation measured t.target; normal = t.dir }

-- the span between two coordinates
abbrev pub IsBetween : ℤ → ℤ → ℤ → Type 0
IsBetween low high c = (low ≤ℤ c) × (c ≤ℤ high)

-- the smallest span that contains another and a coordinate
pub record IsWider (low high c : ℤ) (low' high' : ℤ) : Type 0 where
  pub holds : IsBetween low' high' c
  pub low_is : low' ≤ℤ low
  pub high_is : high ≤ℤ high'
  pub nearest : (lower higher : ℤ) → IsBetween lower higher c → lower ≤ℤ low → high ≤ℤ higher → (lower ≤ℤ low') × (high' ≤ℤ higher)

-- the coordinate between a lowest and a highest one that is nearest to a coordinate: itself if it lies between them
abbrev pub nearest : ℤ → ℤ → ℤ → ℤ
nearest low high c = if int_lt c low then low else if int_lt high c then high else c

-- how far that is above the lowest
unfoldable pub height_in : ℤ → ℤ → ℤ → ℕ
height_in low high c = unsigned_abs (nearest low high c -ℤ low)
