-- The two views: from above, x to the right and y up, and from the front, x to the right and z up.
use Rattle.std.specs.Prelude.{ℕ, ℤ, pos, negsuc, ◌+◌, ◌-◌, ◌≤◌, min, neg_ℤ, unsigned_abs}
use Rattle.drawings.specs.Scales.{on_paper}
use Rattle.drawings.specs.Sheet.{Spot, margin, sheet_width, sheet_height}
use Rattle.deviations.specs.declared.along.Deviation.{Deviation}
use Rattle.drawings.specs.declared.places.Place.{Place}
use Rattle.drawings.specs.declared.sides.Side.{Side}
use Rattle.drawings.specs.declared.sides.Side.TheVariants.{Plan, Front}
use Rattle.drawings.specs.declared.whiskers.Whiskers.{Whiskers}

-- the coordinate that is up
abbrev pub upright_of : Side → Place → ℤ
upright_of Plan p = p.y
upright_of Front p = p.z

-- the part of a deviation that is up
abbrev pub part_of : Side → Deviation → ℤ
part_of Plan v = v.y
part_of Front v = v.z

-- a nominal point is drawn far enough inside the sheet that the longest line from it stays on the sheet
pub record IsInView (p : Spot) : Type 0 where
  pub left : margin ≤ p.across
  pub right : p.across + margin ≤ sheet_width
  pub above : margin ≤ p.down
  pub below : p.down + margin ≤ sheet_height

-- a position moved in the direction of a number's sign
abbrev pub moved : ℕ → ℤ → ℕ → ℕ
moved from (pos _) by = from + by
moved from (negsuc _) by = from - by

-- a part of a deviation on paper, at the whiskers' scale: in whole micrometres, rounded down, and no longer than the longest
abbrev pub stretched : Whiskers → ℤ → ℕ
stretched w part = on_paper w.scale (min (unsigned_abs part) w.longest)

-- the end of a deviation's whisker that starts at a position: moved to the right by its part along x, and upwards by its part
-- that is up
abbrev pub tip_of : Side → Whiskers → Spot → Deviation → Spot
tip_of side w from v = record {
  across = moved from.across v.x (stretched w v.x);
  down = moved from.down (neg_ℤ (part_of side v)) (stretched w (part_of side v));
}
