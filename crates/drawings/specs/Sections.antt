-- The table of each feature in the page of a part.
use Rattle.std.specs.Prelude.{ℕ, ◌-◌, Bool, ◌==◌, List, [], ◌∷◌, ◌++◌, length, take, drop, codes, decimal, pos, Option, Some, None, if◌then◌else◌}
use Rattle.contact_ledger.specs.Fields.{point_fields}
use Rattle.deviations.specs.Compared.{worst_after, worst_words}
use Rattle.deviations.specs.Judged.{row_verdict}
use Rattle.deviations.specs.Records.{measured_fields, deviation_fields, along_fields, limit_fields, verdict_field}
use Rattle.deviations.specs.Rows.{Row}
use Rattle.dmis_program.specs.declared.features.Wanted.{Wanted}
use Rattle.fixed_um.specs.Written.{written}
use Rattle.deviations.specs.Limits.{range_for}
use Rattle.deviations.specs.declared.entries.Limit.{Limit}
use Rattle.deviations.specs.declared.ranges.Range.{Range}
use Rattle.drawings.specs.BarCells.{bar_cell}
use Rattle.drawings.specs.Markup.{between, cell, cells}
use Rattle.drawings.specs.Texts.{markup}

-- the numbers of a row, as its table has them
abbrev pub number_cells : Row → List ℕ
number_cells r = cell (decimal r.place.number) ++ (cells (point_fields r.place.touch.target)
    ++ (cells (measured_fields r.place.measured) ++ (cells (deviation_fields r.deviation) ++ cells (along_fields r.along))))

-- whether a row is in or out, if it is compared: by it a browser chooses the colour of the row
abbrev pub row_class : Option (List Limit) → Row → List ℕ
row_class (Some limits) r = verdict_field (row_verdict limits r)
row_class None r = []

abbrev pub row_start : Option (List Limit) → Row → List ℕ
row_start limits r = between (codes "<tr class=\"") (row_class limits r) (codes "\">")

-- a row: its numbers, its bar, and with limits whether it is in or out
unfoldable pub row_text : ℕ → Option (List Limit) → Row → List ℕ
row_text most limits r = row_start limits r ++ (number_cells r ++ (bar_cell most r.along
    ++ (cells (limit_fields limits r) ++ markup (codes "</tr>\n"))))

abbrev pub rows_text : ℕ → Option (List Limit) → List Row → List ℕ
rows_text most limits [] = []
rows_text most limits (r ∷ rows) = row_text most limits r ++ rows_text most limits rows

-- the names of the columns; that of the bars names the deviation that fills half of a cell
abbrev pub limit_title : Option (List Limit) → List ℕ
limit_title (Some limits) = markup (codes "<th rowspan=\"2\">limit</th>")
limit_title None = []

unfoldable pub titles : ℕ → Option (List Limit) → List ℕ
titles most limits = markup (codes "<table><thead><tr><th rowspan=\"2\">point</th><th colspan=\"3\">nominal</th><th colspan=\"3\">")
    ++ (markup (codes "measured</th><th colspan=\"4\">deviation</th><th rowspan=\"2\">&#177;") ++ (written (pos most)
    ++ (markup (codes "</th>") ++ (limit_title limits
    ++ (markup (codes "</tr>\n<tr><th>x</th><th>y</th><th>z</th><th>x</th><th>y</th><th>z</th><th>x</th><th>y</th><th>z</th>")
    ++ markup (codes "<th>along normal</th></tr></thead><tbody>\n"))))))

-- the worst point of rows; no words if no row is compared
abbrev pub worst_text : Range → List Row → List ℕ
worst_text range rows = between (codes ". <b>") (worst_words range (worst_after range None rows)) (codes "</b></p>\n")

-- the range of a feature, and its worst point
unfoldable pub range_line : Range → List Row → List ℕ
range_line range rows = markup (codes "<p>Limits ") ++ (written range.lower ++ (markup (codes " to ") ++ (written range.upper
    ++ worst_text range rows)))

abbrev pub range_text : Option Range → List Row → List ℕ
range_text (Some range) rows = range_line range rows
range_text None rows = markup (codes "<p>No limit is for it.</p>\n")

-- there is no line if no limits are named
abbrev pub limit_text : Option (List Limit) → List ℕ → List Row → List ℕ
limit_text (Some limits) label rows = range_text (range_for limits label) rows
limit_text None label rows = []

-- the end of the heading of a feature, which is missing or not
abbrev pub heading_end : Bool → List ℕ
heading_end missing = if missing then codes ": not measured</h2>\n" else codes "</h2>\n"

abbrev pub heading : Bool → List ℕ → List ℕ
heading missing label = between (codes "<h2>") label (heading_end missing)

-- a feature: its label, whether it is missing, its range, and its rows
unfoldable pub section_text : ℕ → Option (List Limit) → Bool → List ℕ → List Row → List ℕ
section_text most limits missing label rows = heading missing label ++ (limit_text limits label rows
    ++ (titles most limits ++ (rows_text most limits rows ++ markup (codes "</tbody></table>\n"))))

-- the features of a program in its order, of which this many were measured; each has as many rows as it has touches
abbrev pub sections_text : ℕ → Option (List Limit) → ℕ → List Wanted → List Row → List ℕ
sections_text most limits measured [] rows = []
sections_text most limits measured (w ∷ wanted) rows =
    section_text most limits (measured == 0) w.label (take (length w.touches) rows)
    ++ sections_text most limits (measured - 1) wanted (drop (length w.touches) rows)
