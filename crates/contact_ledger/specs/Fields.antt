-- Values as fields of a line (this profile), and the values that can be written so. A length and a component have their written form.
use Rattle.std.specs.Prelude.{ℕ, ◌≤◌, ℤ, List, [], ◌∷◌, unsigned_abs, codes, Option, Some, None}
use Rattle.fixed_um.specs.Limits.{wire_limit}
use Rattle.fixed_um.specs.Shapes.{Direction, IsDirection}
use Rattle.fixed_um.specs.Written.{written, written_component}
use Rattle.fixed_um.specs.declared.lengths.Point.{Point}
use Rattle.fixed_um.specs.declared.frames.Frame.{Frame}
use Rattle.fixed_um.specs.declared.frames.Frame.TheVariants.{Machine, Part}

-- a length within the wire limit, as every length is
abbrev pub IsLength : ℤ → Type 0
IsLength z = unsigned_abs z ≤ wire_limit

-- a point of such lengths
pub record IsOnWire (p : Point) : Type 0 where
  pub x : IsLength p.x
  pub y : IsLength p.y
  pub z : IsLength p.z

-- a frame whose zero point is such a point
abbrev pub IsFrame : Frame → Type 0
IsFrame Machine = Unit {0}
IsFrame (Part offset) = IsOnWire offset

-- no direction, or one within its limit that is not all zero
abbrev pub IsTouch : Option Direction → Type 0
IsTouch None = Unit {0}
IsTouch (Some direction) = IsDirection direction

-- x y z
abbrev pub point_fields : Point → List (List ℕ)
point_fields p = written p.x ∷ written p.y ∷ written p.z ∷ []

-- M, or P and the zero point
abbrev pub frame_fields : Frame → List (List ℕ)
frame_fields Machine = codes "M" ∷ []
frame_fields (Part offset) = codes "P" ∷ point_fields offset

-- N, or D and the components
abbrev pub direction_fields : Option Direction → List (List ℕ)
direction_fields None = codes "N" ∷ []
direction_fields (Some d) = codes "D" ∷ written_component d.i ∷ written_component d.j ∷ written_component d.k ∷ []
