-- Values of the examples. No theorem cites these definitions.
use Rattle.std.specs.Prelude.{ℕ, List, [], ◌∷◌, codes, ℤ, pos, negsuc, ◌+ℤ◌, Some, None}
use Rattle.deviations.specs.Compared.{Worst}
use Rattle.deviations.specs.Rows.{Row}
use Rattle.dmis_program.specs.declared.features.Touch.{Touch}
use Rattle.dmis_program.specs.declared.features.Wanted.{Wanted}
use Rattle.fixed_um.specs.declared.frames.Frame.TheVariants.{Machine}
use Rattle.fixed_um.specs.declared.lengths.Point.{Point}
use Rattle.fixed_um.specs.Written.{written}
use Rattle.deviations.specs.declared.entries.Limit.{Limit}
use Rattle.deviations.specs.declared.ranges.Range.{Range}
use Rattle.drawings.specs.Markup.{cells}

-- a point on the x axis
abbrev pub at : ℤ → Point
at x = record { x = x; y = pos 0; z = pos 0 }

-- a touch at x = 1.000
abbrev pub touch : Touch
touch = record { target = at (pos 1000); dir = None; tool = codes "P1"; frame = Machine }

-- the first point of A, which was measured this far along x and along its normal
abbrev pub row : ℤ → Row
row along = record {
  place = record { feature = codes "A"; number = 1; touch = touch; measured = Some (at (pos 1000 +ℤ along)); connection = None };
  deviation = Some (record { x = along; y = pos 0; z = pos 0 });
  along = Some along;
}

-- the first point of A, which was not measured
abbrev pub open_row : Row
open_row = record {
  place = record { feature = codes "A"; number = 1; touch = touch; measured = None; connection = None };
  deviation = None;
  along = None;
}

-- a feature with one touch
abbrev pub wanted : List ℕ → Wanted
wanted label = record { label = label; touches = touch ∷ [] }

-- the range from -0.010 to 0.020, and the limits that give it to A
abbrev pub range : Range
range = record { lower = negsuc 9; upper = pos 20 }

abbrev pub limits : List Limit
limits = record { label = Some (codes "A"); range = range } ∷ []

-- the first point as the worst
abbrev pub worst : ℤ → Worst
worst along = record { number = 1; along = along }

-- the cells of a length along x
abbrev pub on_x : ℤ → List ℕ
on_x x = cells (written x ∷ written (pos 0) ∷ written (pos 0) ∷ [])
