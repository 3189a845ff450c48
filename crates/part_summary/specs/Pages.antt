-- A summary as a page of HTML that is complete in itself (this profile; WHATWG HTML).
use Rattle.std.specs.Prelude.{ℕ, ◌+◌, ◌*◌, ◌-◌, ◌==◌, ◌&&◌, Bool, true, false, List, [], ◌∷◌, ◌++◌, length, take, drop, codes, decimal}
use Rattle.std.specs.Prelude.{Option, Some, None, unwrap_or, if◌then◌else◌}
use Rattle.std.specs.List.{flat_map}
use Rattle.deviations.specs.declared.entries.Limit.{Limit}
use Rattle.deviations.specs.declared.ranges.Range.{Range}
use Rattle.dme_orders.specs.Named.{shown_name}
use Rattle.dmis_program.specs.declared.features.Wanted.{Wanted}
use Rattle.drawings.specs.Markup.{between, cell, cells}
use Rattle.drawings.specs.Pages.{style, within_line}
use Rattle.drawings.specs.Texts.{markup}
use Rattle.fixed_um.specs.Written.{written}
use Rattle.part_summary.specs.Batches.{Summed, UnfinishedPart, range_named}
use Rattle.part_summary.specs.Charts.{chart_text}
use Rattle.part_summary.specs.Sums.{Sums, Tally}
use Rattle.part_summary.specs.Tables.{figures}
use Rattle.part_summary.specs.Texts.{few_words}
use Rattle.part_summary.specs.Times.{Plot}

-- how charts are drawn: their lines are as thin as elsewhere, however they are stretched
unfoldable pub chart_style : List ℕ
chart_style = codes "<!DOCTYPE html>\n<html lang=\"en\"><head><meta charset=\"utf-8\"><style>\n"
    ++ (codes ".run{width:100%;height:11em;border:1px solid #8886}.run path{vector-effect:non-scaling-stroke;stroke:var(--bar);"
    ++ (codes "stroke-width:4;stroke-linecap:round}.run .zero{stroke:#8889;stroke-width:1}.run .limit{stroke:var(--no);stroke-width:1}\n"
    ++ codes "</style><title>Summary of "))

abbrev pub page_head : List ℕ → List ℕ
page_head name = between chart_style (shown_name name) style

unfoldable pub name_lines : List ℕ → List ℕ
name_lines name = between (codes "<h1>Summary of ") (shown_name name) (codes "</h1>\n")

-- how many records count of how many
abbrev pub counts_start : ℕ → ℕ → List ℕ
counts_start counted named =
    if counted == 0 then codes "<p class=\"no\"><b>Nothing counts:</b> " else
    if counted == named then codes "<p class=\"yes\"><b>All records count:</b> " else codes "<p class=\"no\"><b>Not all records count:</b> "

unfoldable pub counts_line : ℕ → ℕ → List ℕ
counts_line counted named = markup (counts_start counted named) ++ (decimal counted ++ (markup (codes " of ") ++ (decimal named
    ++ markup (codes " records count.</p>\n"))))

-- which parts lack a feature
unfoldable pub lacking_line : ℕ → UnfinishedPart → List ℕ
lacking_line asked part = between (codes "<p class=\"no\"><b>Unfinished:</b> ") part.name []
    ++ (few_words part.measured asked ++ markup (codes "</p>\n"))

unfoldable pub lacking_lines : ℕ → ℕ → List UnfinishedPart → List ℕ
lacking_lines counted asked [] =
    if counted == 0 then [] else markup (codes "<p class=\"yes\"><b>Complete:</b> no part that counts lacks a feature.</p>\n")
lacking_lines counted asked (part ∷ parts) = flat_map (lacking_line asked) (part ∷ parts)

-- how many deviations of a touch are compared with a limit, and how many are out of it
abbrev pub compared : Option Range → Option Sums → ℕ
compared None sums = 0
compared (Some range) None = 0
compared (Some range) (Some s) = s.count

abbrev pub out_of : Option Range → Option Sums → ℕ
out_of None sums = 0
out_of (Some range) None = 0
out_of (Some range) (Some s) = s.out

abbrev pub all_compared : List Tally → ℕ
all_compared [] = 0
all_compared (t ∷ tallies) = compared t.range t.sums + all_compared tallies

abbrev pub all_out : List Tally → ℕ
all_out [] = 0
all_out (t ∷ tallies) = out_of t.range t.sums + all_out tallies

abbrev pub is_complete : ℕ → ℕ → List UnfinishedPart → Bool
is_complete counted named [] = counted == named
is_complete counted named (part ∷ parts) = false

-- how many points are out of limits; each touch of the program is a point of each part
unfoldable pub limits_line : ℕ → Summed → Option (List Limit) → List ℕ
limits_line named s None = markup (codes "<p class=\"open\"><b>Not compared with limits:</b> none were named.</p>\n")
limits_line named s (Some limits) = within_line (all_out s.tallies) (all_compared s.tallies) (is_complete s.counted named s.unfinished)
    (s.counted * length s.tallies - all_compared s.tallies)

-- whether seals were checked
unfoldable pub seals_line : Option (List ℕ) → List ℕ
seals_line None = markup (codes "<p class=\"open\"><b>Seals not checked:</b> no key was named.</p>\n")
seals_line (Some key) = markup (codes "<p class=\"yes\"><b>Seals checked:</b> seals of the key stand for each record that counts.</p>\n")

unfoldable pub scope_line : List ℕ
scope_line = markup (codes "<p>Lengths are in millimetres; deviations are along the normal. No fit and no other tolerance was evaluated. ")
    ++ markup (codes "A chart has a stroke for each part, from its least deviation to its greatest, in the order of the last table.</p>\n")

unfoldable pub head_lines : List ℕ → ℕ → Summed → List ℕ
head_lines name named s = name_lines name ++ (counts_line s.counted named
    ++ (lacking_lines s.counted (length s.program.features) s.unfinished ++ (limits_line named s s.limits
    ++ (seals_line s.key ++ scope_line))))

-- the row of a touch, with its figures; by its class a browser chooses its colour
abbrev pub out_class : Option Sums → List ℕ
out_class None = []
out_class (Some s) = if s.out == 0 then [] else codes "out"

unfoldable pub figure_row : ℕ → Tally → List ℕ
figure_row number t = between (codes "<tr class=\"") (out_class t.sums) (codes "\">")
    ++ (cells (figures number t.range t.sums) ++ markup (codes "</tr>\n"))

abbrev pub figure_rows : ℕ → List Tally → List ℕ
figure_rows number [] = []
figure_rows number (t ∷ tallies) = figure_row number t ++ figure_rows (number + 1) tallies

unfoldable pub figure_titles : List ℕ
figure_titles = markup (codes "<table><thead><tr><th>touch</th><th>count</th><th>least</th><th>mean</th><th>greatest</th>")
    ++ markup (codes "<th>range</th><th>out</th></tr></thead><tbody>\n")

-- the limits of a feature
unfoldable pub range_line : Range → List ℕ
range_line range = markup (codes "<p>Limits ") ++ (written range.lower ++ (markup (codes " to ") ++ (written range.upper ++ markup (codes "</p>\n"))))

abbrev pub range_lines : Option Range → List ℕ
range_lines None = markup (codes "<p>No limit is for it.</p>\n")
range_lines (Some range) = range_line range

-- a feature: its label, its limits, its touches and its run chart
unfoldable pub section : ℕ → List ℕ → Option Range → List Plot → List Tally → List ℕ
section feature label range parts tallies = between (codes "<h2>") label (codes "</h2>\n") ++ (range_lines range ++ (figure_titles
    ++ (figure_rows 1 tallies ++ (markup (codes "</tbody></table>\n") ++ chart_text feature range parts))))

abbrev pub sections : ℕ → Option (List Limit) → List Plot → List Wanted → List Tally → List ℕ
sections feature limits parts [] tallies = []
sections feature limits parts (w ∷ wanted) tallies =
    section feature w.label (range_named limits w.label) parts (take (length w.touches) tallies)
    ++ sections (feature + 1) limits parts wanted (drop (length w.touches) tallies)

-- the parts in the order of their times
unfoldable pub part_row : ℕ → Plot → List ℕ
part_row number p = markup (codes "<tr>") ++ (cells (decimal number ∷ p.name ∷ unwrap_or p.time [] ∷ decimal p.measured ∷ [])
    ++ markup (codes "</tr>\n"))

abbrev pub part_rows : ℕ → List Plot → List ℕ
part_rows number [] = []
part_rows number (p ∷ parts) = part_row number p ++ part_rows (number + 1) parts

unfoldable pub parts_table : List Plot → List ℕ
parts_table parts = markup (codes "<h2>Parts</h2>\n<table><thead><tr><th></th><th>part</th><th>begun</th><th>features</th></tr></thead><tbody>\n")
    ++ (part_rows 1 parts ++ markup (codes "</tbody></table>\n"))

unfoldable pub page_end : List ℕ
page_end = markup (codes "<p><code>dme summary --as csv</code> prints the same figures.</p>\n</body></html>\n")

-- the page of a summary of records of which this many were named, with the name of the program
unfoldable pub page_text : List ℕ → ℕ → Summed → List ℕ
page_text name named s = page_head name ++ (head_lines name named s
    ++ (sections 0 s.limits s.plots s.program.features s.tallies ++ (parts_table s.plots ++ page_end)))
