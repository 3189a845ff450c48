-- The run chart of a feature (this profile), as an element of SVG (W3C SVG 1.1) in HTML. It is drawn in millimetres, with y up, so that its
-- numbers are the deviations themselves; the browser stretches it. Part n has x = n.
use Rattle.std.specs.Prelude.{ℕ, ◌+◌, ◌*◌, ◌/◌, List, [], ◌∷◌, ◌++◌, length, codes, decimal, slice_get, ℤ, pos, ◌+ℤ◌, ◌-ℤ◌, ◌≤ℤ◌, neg_ℤ, unsigned_abs}
use Rattle.std.specs.Prelude.{Option, Some, None, unwrap_or}
use Rattle.std.specs.Int.{int_min, int_max}
use Rattle.deviations.specs.declared.ranges.Range.{Range}
use Rattle.drawings.specs.Markup.{between}
use Rattle.drawings.specs.Texts.{markup}
use Rattle.fixed_um.specs.Written.{written}
use Rattle.part_summary.specs.Spans.{Span}
use Rattle.part_summary.specs.Times.{Plot}

-- the span of a part's feature, by the number of features before it
abbrev pub span_at : ℕ → Plot → Option Span
span_at feature p = unwrap_or (slice_get p.spans feature) None

-- how far a chart reaches: from the least to the greatest of zero, the limits, and the deviations
abbrev pub reach_of : Option Range → Span
reach_of None = record { least = pos 0; greatest = pos 0 }
reach_of (Some range) = record { least = int_min (pos 0) range.lower; greatest = int_max (pos 0) range.upper }

abbrev pub reach_with : Span → Option Span → Span
reach_with reach None = reach
reach_with reach (Some s) = record { least = int_min reach.least s.least; greatest = int_max reach.greatest s.greatest }

abbrev pub reach_after : ℕ → Span → List Plot → Span
reach_after feature reach [] = reach
reach_after feature reach (p ∷ parts) = reach_after feature (reach_with reach (span_at feature p)) parts

-- a span, if there is one, within a reach
abbrev pub IsWithin : Span → Option Span → Type 0
IsWithin reach None = Unit {0}
IsWithin reach (Some s) = (reach.least ≤ℤ s.least) × (s.greatest ≤ℤ reach.greatest)

-- its height, and what is left above and below: at least a micrometre
abbrev pub height : Span → ℕ
height reach = unsigned_abs (reach.greatest -ℤ reach.least)

abbrev pub margin : Span → ℕ
margin reach = height reach / 20 + 1

-- the box that is seen: as wide as there are parts, with one more for both sides
unfoldable pub chart_start : Span → ℕ → List ℕ
chart_start reach count = markup (codes "<svg class=\"run\" preserveAspectRatio=\"none\" viewBox=\"0 ")
    ++ (written (neg_ℤ (reach.greatest +ℤ pos (margin reach))) ++ (markup (codes " ") ++ (decimal (count + 1) ++ (markup (codes " ")
    ++ (written (pos (height reach + 2 * margin reach)) ++ markup (codes "\"><g transform=\"scale(1 -1)\">\n"))))))

-- a line over the whole width
unfoldable pub level : List ℕ → ℤ → ℕ → List ℕ
level class at count = markup (codes "<path class=\"") ++ (markup class ++ (markup (codes "\" d=\"M0 ") ++ (written at ++ (markup (codes "H")
    ++ (decimal (count + 1) ++ markup (codes "\"/>\n"))))))

abbrev pub limit_levels : Option Range → ℕ → List ℕ
limit_levels None count = []
limit_levels (Some range) count = level (codes "limit") range.lower count ++ level (codes "limit") range.upper count

-- the stroke of a part, from its least deviation to its greatest, with its name
unfoldable pub stroke : ℕ → List ℕ → Span → List ℕ
stroke number name s = markup (codes "<path d=\"M") ++ (decimal number ++ (markup (codes " ") ++ (written s.least ++ (markup (codes "V")
    ++ (written s.greatest ++ between (codes "\"><title>") name (codes "</title></path>\n"))))))

-- a part in which the feature was not measured has none
abbrev pub stroke_of : ℕ → List ℕ → Option Span → List ℕ
stroke_of number name None = []
stroke_of number name (Some s) = stroke number name s

abbrev pub strokes : ℕ → ℕ → List Plot → List ℕ
strokes feature number [] = []
strokes feature number (p ∷ parts) = stroke_of number p.name (span_at feature p) ++ strokes feature (number + 1) parts

unfoldable pub chart_text : ℕ → Option Range → List Plot → List ℕ
chart_text feature range parts = chart_start (reach_after feature (reach_of range) parts) (length parts)
    ++ (level (codes "zero") (pos 0) (length parts) ++ (limit_levels range (length parts)
    ++ (strokes feature 1 parts ++ markup (codes "</g></svg>\n"))))
