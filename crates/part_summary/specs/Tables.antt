-- A summary as comma-separated values (RFC 4180): lengths in millimetres with three decimals; a field is empty where there is no value.
use Rattle.std.specs.Prelude.{ℕ, List, [], ◌∷◌, ◌++◌, codes, decimal, ◌-ℤ◌, Option, Some, None}
use Rattle.csv.specs.Writing.{default_writer, row_text}
use Rattle.deviations.specs.Rows.{Place}
use Rattle.deviations.specs.declared.ranges.Range.{Range}
use Rattle.fixed_um.specs.Written.{written}
use Rattle.part_summary.specs.Batches.{Summed, touches_of}
use Rattle.part_summary.specs.Sums.{Sums, Tally, mean}

-- the names of the columns
abbrev pub columns : List (List ℕ)
columns = codes "feature" ∷ codes "touch" ∷ codes "count" ∷ codes "least" ∷ codes "mean" ∷ codes "greatest" ∷ codes "range" ∷ codes "out" ∷ []

-- how many deviations are out, if a limit is for their touch
abbrev pub out_field : Option Range → ℕ → List ℕ
out_field None out = []
out_field (Some range) out = decimal out

-- the number of a touch and its figures
abbrev pub figures : ℕ → Option Range → Option Sums → List (List ℕ)
figures number range None = decimal number ∷ codes "0" ∷ [] ∷ [] ∷ [] ∷ [] ∷ out_field range 0 ∷ []
figures number range (Some s) = decimal number ∷ decimal s.count ∷ written s.least ∷ written (mean s.total s.count) ∷ written s.greatest
    ∷ written (s.greatest -ℤ s.least) ∷ out_field range s.out ∷ []

-- the fields of a touch
abbrev pub touch_fields : List ℕ → ℕ → Option Range → Option Sums → List (List ℕ)
touch_fields feature number range sums = feature ∷ figures number range sums

abbrev pub touch_rows : List Place → List Tally → List ℕ
touch_rows [] tallies = []
touch_rows (p ∷ places) [] = []
touch_rows (p ∷ places) (t ∷ tallies) = row_text default_writer (touch_fields p.feature p.number t.range t.sums) ++ touch_rows places tallies

-- the table of a summary
unfoldable pub table_text : Summed → List ℕ
table_text s = row_text default_writer columns ++ touch_rows (touches_of s.program) s.tallies
