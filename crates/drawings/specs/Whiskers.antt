-- The lengths of deviations, and the scale at which they are drawn.
use Rattle.std.specs.Prelude.{ℕ, ℤ, ◌+◌, ◌*◌, ◌≤◌, List, ⊤, unsigned_abs}
use Rattle.std.specs.List.{AllByRecursion}
use Rattle.drawings.specs.Scales.{IsScaleFor}
use Rattle.drawings.specs.declared.scales.Lengths.{Lengths}
use Rattle.drawings.specs.declared.scales.Room.{Room}
use Rattle.drawings.specs.declared.walk.Act.{Act}
use Rattle.drawings.specs.declared.walk.Act.TheVariants as act
use Rattle.drawings.specs.declared.walk.Stop.{Stop}
use Rattle.drawings.specs.declared.whiskers.Whiskers.{Whiskers}

-- a line with these parts is at most this long (Pythagoras)
abbrev pub IsAtMost : ℕ → ℤ → ℤ → Type 0
IsAtMost most across upright = unsigned_abs across * unsigned_abs across + unsigned_abs upright * unsigned_abs upright ≤ most * most

-- the deviation of a measured point is at most this long in both views
abbrev pub NotLonger : ℕ → Act → Type 0
NotLonger most (act.Measured gap) = IsAtMost most gap.deviation.x gap.deviation.y × IsAtMost most gap.deviation.x gap.deviation.z
NotLonger most act.Move = ⊤
NotLonger most act.Touch = ⊤

abbrev pub NoneLonger : ℕ → List Stop → Type 0
NoneLonger most stops = AllByRecursion (λ (s : Stop). NotLonger most s.act) stops

-- the length of the longest deviation of stops in a view, in whole micrometres, rounded up
pub record IsLongestAway (stops : List Stop) (longest : ℕ) : Type 0 where
  pub within : NoneLonger longest stops
  pub least : (most : ℕ) → NoneLonger most stops → longest ≤ most

abbrev pub one_length : ℕ → Lengths
one_length length = record { across = length; first = 0; second = 0 }

-- a twentieth of the width of a frame, in whole millimetres
abbrev pub whisker_room : Room
whisker_room = record { across = 10000; upright = 10000 }

-- deviations are drawn at the largest scale at which the longest is at most a twentieth of a frame's width on paper, at 1:1 if there is no
-- deviation
pub record AreWhiskers (stops : List Stop) (w : Whiskers) : Type 0 where
  pub longest : IsLongestAway stops w.longest
  pub scale : IsScaleFor (one_length w.longest) whisker_room w.scale
