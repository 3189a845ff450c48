-- The deviations that are within a limit (this profile), in whole micrometres.
use Rattle.std.specs.Prelude.{◌&&◌, ℤ, int_le, Option, Some, None, if◌then◌else◌}
use Rattle.deviations.specs.declared.ranges.Range.{Range}
use Rattle.deviations.specs.declared.ranges.Verdict.{Verdict}
use Rattle.deviations.specs.declared.ranges.Verdict.TheVariants.{Inside, Outside}

-- the range from the lower limit to the upper one, unless the lower one is the greater
abbrev pub range_between : ℤ → ℤ → Option Range
range_between lower upper = if int_le lower upper then Some (record { lower = lower; upper = upper }) else None

-- a deviation is in its range: neither below the lower limit nor above the upper one
abbrev pub verdict_in : Range → ℤ → Verdict
verdict_in range along = if int_le range.lower along && int_le along range.upper then Inside else Outside
