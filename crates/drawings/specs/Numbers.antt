-- The numbers at points: the deviation along the normal, where there is room for it.
use Rattle.std.specs.Prelude.{ℕ, ℤ, ◌+◌, ◌-◌, Bool, true, false, ◌&&◌, ◌==◌, nat_le, length, filter, List, [], ◌++◌, codes, Option, Some, None, if◌then◌else◌}
use Rattle.std.specs.List.{flat_map}
use Rattle.drawings.specs.Marks.{spot_of}
use Rattle.drawings.specs.Peaks.{along_text}
use Rattle.drawings.specs.Sheet.{Spot}
use Rattle.drawings.specs.Stops.{touches_among}
use Rattle.drawings.specs.Texts.{markup}
use Rattle.drawings.specs.declared.seen.Seen.{Seen}
use Rattle.drawings.specs.declared.views.View.{View}
use Rattle.drawings.specs.declared.walk.Stop.{Stop}

-- a position on paper is within 9 mm across and 3.5 mm down of another
abbrev pub is_near : Spot → Spot → Bool
is_near a b = nat_le a.across (b.across + 9000) && nat_le b.across (a.across + 9000)
    && nat_le a.down (b.down + 3500) && nat_le b.down (a.down + 3500)

-- how many touches are that near to a position, in a view
abbrev pub near_count : View → Spot → List Stop → ℕ
near_count v at touches = length (filter (λ (s : Stop). is_near at (spot_of v s.place)) touches)

-- a number, to the right above its point
abbrev pub number_text : Spot → ℤ → List ℕ
number_text at along = along_text (record { across = at.across + 1000; down = at.down - 700 }) along

-- a point has its number if it has a deviation along a normal, and no touch is near to it but its own
abbrev pub number_if : Bool → Spot → Option ℤ → List ℕ
number_if true at (Some along) = number_text at along
number_if true at None = []
number_if false at along = []

unfoldable pub number_of : View → List Stop → Seen → List ℕ
number_of v touches s = number_if (near_count v (spot_of v s.stop.place) touches == 1) (spot_of v s.stop.place) s.along

-- the numbers of a view; no sheet has room for those of more than 1,000 touches
abbrev pub numbers_of : View → List Stop → List Seen → List ℕ
numbers_of v touches seen = if nat_le (length touches) 1000 then flat_map (number_of v touches) seen else []

unfoldable pub numbers_text : View → List Stop → List Seen → List ℕ
numbers_text v stops seen = markup (codes "<g font-size=\"2.2\">\n") ++ (numbers_of v (touches_among stops) seen ++ markup (codes "</g>\n"))
