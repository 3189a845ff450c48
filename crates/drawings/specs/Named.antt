-- What labels name: for each feature of a program, the touch that is farthest to the right, whether the feature has begun, and its peak.
use Rattle.std.specs.Prelude.{◌≡◌, ⊤, Bool, true, false, None, List, [], ◌∷◌, int_lt, drop, if◌then◌else◌}
use Rattle.contact_ledger.specs.declared.features.Feature.{Feature}
use Rattle.dmis_program.specs.declared.features.Touch.{Touch}
use Rattle.dmis_program.specs.declared.features.Wanted.{Wanted}
use Rattle.fixed_um.specs.Points.{zero_point}
use Rattle.fixed_um.specs.declared.lengths.Point.{Point}
use Rattle.drawings.specs.Peaks.{IsPeakAfter}
use Rattle.drawings.specs.Places.{place_of}
use Rattle.drawings.specs.Stops.{zero_of, next_points}
use Rattle.drawings.specs.declared.places.Place.{Place}
use Rattle.drawings.specs.declared.marks.Mark.{Mark}

-- where a touch is, in machine axes
abbrev pub touch_place : Touch → Place
touch_place t = place_of t.target (zero_of t.frame)

-- the one of two places that is farther to the right; the earlier one if both are equally far
abbrev pub farther : Place → Place → Place
farther first later = if int_lt first.x later.x then later else first

-- the place farthest to the right among a place and those of touches; the first if there are several
abbrev pub farthest : Place → List Touch → Place
farthest first [] = first
farthest first (t ∷ touches) = farther first (farthest (touch_place t) touches)

-- that among the touches of a feature; each feature has at least one
abbrev pub farthest_of : List Touch → Place
farthest_of [] = place_of zero_point zero_point
farthest_of (t ∷ touches) = farthest (touch_place t) touches

-- whether there is a point
abbrev pub is_begun : List Point → Bool
is_begun [] = false
is_begun (p ∷ points) = true

-- the mark of a feature of which these points were measured
pub record IsMark (w : Wanted) (points : List Point) (m : Mark) : Type 0 where
  pub place : m.place ≡ farthest_of w.touches
  pub is_measured : m.is_measured ≡ is_begun points
  pub peak : IsPeakAfter None w.touches points m.peak

-- the mark of each feature that a program asks for, paired with the features that were measured first
abbrev pub AreMarks : List Wanted → List Feature → List Mark → Type 0
AreMarks [] features [] = ⊤
AreMarks [] features (m ∷ marks) = ⊥
AreMarks (w ∷ wanted) features [] = ⊥
AreMarks (w ∷ wanted) features (m ∷ marks) = IsMark w (next_points features) m × AreMarks wanted (drop 1 features) marks
