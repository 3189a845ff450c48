-- How far the deviations of a feature of one part reach (this profile), in whole micrometres.
use Rattle.std.specs.Prelude.{ℕ, List, [], ◌∷◌, length, take, drop, ℤ, Option, Some, None}
use Rattle.std.specs.Int.{int_min, int_max}
use Rattle.deviations.specs.Rows.{Row}
use Rattle.dmis_program.specs.declared.features.Wanted.{Wanted}

-- the least and the greatest
pub record Span : Type 0 where
  pub least : ℤ
  pub greatest : ℤ

-- with one deviation more, if there is one
abbrev pub widened : Option Span → Option ℤ → Option Span
widened span None = span
widened None (Some x) = Some (record { least = x; greatest = x })
widened (Some s) (Some x) = Some (record { least = int_min s.least x; greatest = int_max s.greatest x })

-- with those of rows
abbrev pub span_after : Option Span → List Row → Option Span
span_after span [] = span
span_after span (r ∷ rows) = span_after (widened span r.along) rows

-- for each feature the span of its rows, of which it has as many as it has touches; there is none if it was not measured
abbrev pub spans_of : List Wanted → List Row → List (Option Span)
spans_of [] rows = []
spans_of (w ∷ wanted) rows = span_after None (take (length w.touches) rows) ∷ spans_of wanted (drop (length w.touches) rows)
