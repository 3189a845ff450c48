-- A summary as text (this profile): lengths in millimetres with three decimals.
use Rattle.std.specs.Prelude.{ℕ, List, [], ◌∷◌, ◌++◌, length, codes, decimal, ◌-ℤ◌, Option, Some, None}
use Rattle.std.specs.List.{flat_map}
use Rattle.deviations.specs.Rows.{Place}
use Rattle.deviations.specs.declared.ranges.Range.{Range}
use Rattle.fixed_um.specs.Written.{written}
use Rattle.order_parts.specs.LastLine.{feature_noun}
use Rattle.part_summary.specs.Batches.{Summed, UnfinishedPart, touches_of}
use Rattle.part_summary.specs.Sums.{Sums, Tally, mean}

-- how many deviations are out, if a limit is for their touch
abbrev pub out_words : Option Range → ℕ → List ℕ
out_words None out = []
out_words (Some range) out = codes ", out " ++ decimal out

-- the figures of a touch in words
unfoldable pub low_words : Sums → List ℕ
low_words s = codes "count " ++ (decimal s.count ++ (codes ", least " ++ (written s.least ++ (codes ", mean " ++ written (mean s.total s.count)))))

unfoldable pub high_words : Sums → List ℕ
high_words s = codes ", greatest " ++ (written s.greatest ++ (codes ", range " ++ written (s.greatest -ℤ s.least)))

abbrev pub sums_words : Option Range → Sums → List ℕ
sums_words range s = low_words s ++ (high_words s ++ out_words range s.out)

abbrev pub tally_words : Option Range → Option Sums → List ℕ
tally_words range None = codes "no value"
tally_words range (Some s) = sums_words range s

-- the line of a touch
unfoldable pub touch_line : List ℕ → ℕ → Tally → List ℕ
touch_line feature number t = feature ++ (codes " " ++ (decimal number ++ (codes ": " ++ (tally_words t.range t.sums ++ codes "\n"))))

abbrev pub touch_lines : List Place → List Tally → List ℕ
touch_lines [] tallies = []
touch_lines (p ∷ places) [] = []
touch_lines (p ∷ places) (t ∷ tallies) = touch_line p.feature p.number t ++ touch_lines places tallies

-- the line of a part that lacks a feature
unfoldable pub few_words : (measured asked : ℕ) → List ℕ
few_words measured asked =
    codes ": " ++ (decimal measured ++ (codes " of " ++ (decimal asked ++ (codes " " ++ (feature_noun asked ++ codes "\n")))))

unfoldable pub start_words : List ℕ → List ℕ
start_words before = before ++ codes "unfinished: "

unfoldable pub unfinished_line : List ℕ → ℕ → UnfinishedPart → List ℕ
unfinished_line before asked part = start_words before ++ (part.name ++ few_words part.measured asked)

-- how many records count of how many, and which parts lack a feature; each line after these bytes
unfoldable pub head_text : List ℕ → ℕ → Summed → List ℕ
head_text before named s = before ++ (decimal s.counted ++ (codes " of " ++ (decimal named ++ (codes " records count\n"
    ++ flat_map (unfinished_line before (length s.program.features)) s.unfinished))))

-- what is said last
unfoldable pub last_words : List ℕ
last_words = codes "In millimetres, along the normal. No fit and no other tolerance was evaluated.\n"

-- the text of a summary
unfoldable pub summary_text : ℕ → Summed → List ℕ
summary_text named s = head_text [] named s ++ (touch_lines (touches_of s.program) s.tallies ++ last_words)

-- the line for a record that does not count; why follows it
unfoldable pub uncounted_line : List ℕ → List ℕ
uncounted_line name = codes "dme: " ++ (name ++ codes " does not count:\n")
