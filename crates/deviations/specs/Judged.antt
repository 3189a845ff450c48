-- Whether the points of a table are within the limits of their features (this profile).
use Rattle.std.specs.Prelude.{ℤ, ℕ, List, [], ◌∷◌, codes, Option, Some, None}
use Rattle.deviations.specs.Limits.{range_for}
use Rattle.deviations.specs.Ranges.{verdict_in}
use Rattle.deviations.specs.declared.entries.Limit.{Limit}
use Rattle.deviations.specs.declared.ranges.Range.{Range}
use Rattle.deviations.specs.declared.ranges.Verdict.{Verdict}
use Rattle.deviations.specs.declared.ranges.Verdict.TheVariants.{Inside, Outside}
use Rattle.deviations.specs.Rows.{Row}

-- a deviation along a normal and the range for it, if both are there
abbrev pub verdict_of : Option Range → Option ℤ → Option Verdict
verdict_of None along = None
verdict_of (Some range) None = None
verdict_of (Some range) (Some along) = Some (verdict_in range along)

-- a row is judged by the limit of its feature; it is not if no limit is for it, if it was not measured, or if it has no normal
abbrev pub row_verdict : List Limit → Row → Option Verdict
row_verdict limits r = verdict_of (range_for limits r.place.feature) r.along

-- the word for it
abbrev pub verdict_word : Verdict → List ℕ
verdict_word Inside = codes "in"
verdict_word Outside = codes "out"
