-- The lines that compare the points of a part with limits (this profile): the worst of each feature, and how many are out.
use Rattle.std.specs.Prelude.{◌≡◌, ℕ, Bool, true, false, List, [], ◌∷◌, ◌++◌, length, take, drop, codes, decimal, ℤ, ◌-ℤ◌, int_lt}
use Rattle.std.specs.Prelude.{Option, Some, None, is_some, fold, if◌then◌else◌}
use Rattle.std.specs.List.{filter}
use Rattle.std.specs.Int.{int_min}
use Rattle.dmis_program.specs.declared.features.Wanted.{Wanted}
use Rattle.fixed_um.specs.Written.{written}
use Rattle.deviations.specs.Limits.{range_for}
use Rattle.deviations.specs.Ranges.{verdict_in}
use Rattle.deviations.specs.declared.entries.Limit.{Limit}
use Rattle.deviations.specs.declared.ranges.Range.{Range}
use Rattle.deviations.specs.declared.ranges.Verdict.{Verdict}
use Rattle.deviations.specs.declared.ranges.Verdict.TheVariants.{Inside, Outside}
use Rattle.deviations.specs.Judged.{row_verdict, verdict_word}
use Rattle.deviations.specs.Rows.{Row}

-- a point of a feature: its number there, and its deviation along the normal in micrometres
pub record Worst : Type 0 where
  pub number : ℕ
  pub along : ℤ

-- how far a deviation is inside its range, in micrometres: the distance to the nearer limit, below zero if it is out
abbrev pub margin : Range → ℤ → ℤ
margin range along = int_min (along -ℤ range.lower) (range.upper -ℤ along)

-- the next point takes the place of the worst so far only if its margin is less
abbrev pub worse : Range → Option Worst → Worst → Option Worst
worse range None next = Some next
worse range (Some worst) next = if int_lt (margin range next.along) (margin range worst.along) then Some next else Some worst

-- a point that was not measured, or has no normal, is passed over
abbrev pub worse_row : Range → Option Worst → ℕ → Option ℤ → Option Worst
worse_row range worst number None = worst
worse_row range worst number (Some along) = worse range worst (record { number = number; along = along })

-- the first of the points with the least margin, after those that gave the worst so far
abbrev pub worst_after : Range → Option Worst → List Row → Option Worst
worst_after range worst rows = fold (λ worst r. worse_row range worst r.place.number r.along) worst rows

-- the words for a worst point
unfoldable pub point_words : Range → Worst → List ℕ
point_words range worst = codes "worst " ++ (written worst.along ++ (codes " at point " ++ (decimal worst.number
    ++ (codes ": " ++ verdict_word (verdict_in range worst.along)))))

-- the words for the worst of rows; none if no row is compared
abbrev pub worst_words : Range → Option Worst → List ℕ
worst_words range None = []
worst_words range (Some worst) = point_words range worst

-- the line that names the worst point of a feature
unfoldable pub worst_line : List ℕ → Range → Worst → List ℕ
worst_line label range worst = codes "dme: " ++ (label ++ (codes ": " ++ (point_words range worst ++ codes "\n")))

abbrev pub worst_text : List ℕ → Range → Option Worst → List ℕ
worst_text label range None = []
worst_text label range (Some worst) = worst_line label range worst

-- there is no line for a feature without a limit
abbrev pub feature_text : List ℕ → Option Range → List Row → List ℕ
feature_text label None rows = []
feature_text label (Some range) rows = worst_text label range (worst_after range None rows)

-- the lines of features in the order of the program; each has as many rows as it has touches
abbrev pub features_text : List Limit → List Wanted → List Row → List ℕ
features_text limits [] rows = []
features_text limits (w ∷ wanted) rows = feature_text w.label (range_for limits w.label) (take (length w.touches) rows)
    ++ features_text limits wanted (drop (length w.touches) rows)

-- a point is out of its limit
abbrev pub is_out : Option Verdict → Bool
is_out (Some Outside) = true
is_out (Some Inside) = false
is_out None = false

-- how many points are compared with a limit, and how many are out
abbrev pub compared_count : List Limit → List Row → ℕ
compared_count limits rows = length (filter (λ r. is_some (row_verdict limits r)) rows)

abbrev pub out_count : List Limit → List Row → ℕ
out_count limits rows = length (filter (λ r. is_out (row_verdict limits r)) rows)

-- the last line: how many points are out, of how many, and that nothing else was evaluated
unfoldable pub part_text : List Limit → List Row → List ℕ
part_text limits rows = codes "dme: out of limits: " ++ (decimal (out_count limits rows) ++ (codes " of "
    ++ (decimal (compared_count limits rows) ++ codes " points; no fit and no other tolerance was evaluated\n")))

-- all lines of a part
abbrev pub compared_text : List Limit → List Wanted → List Row → List ℕ
compared_text limits wanted rows = features_text limits wanted rows ++ part_text limits rows
