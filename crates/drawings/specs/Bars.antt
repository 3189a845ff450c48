-- The scale bars below the views: their length on the sheet, and the text that names it.
use Rattle.std.specs.Prelude.{◌≡◌, ℕ, ◌+◌, ◌<◌, ◌≤◌, List, ◌++◌, codes}
use Rattle.drawings.specs.Scales.{round, on_paper}
use Rattle.drawings.specs.Texts.{markup, line_text, text_start, text_end, millimetres}

-- the longest of the round lengths, which reach up to 10 km, that fits on paper at a scale: the one with this number
pub record IsLongest (scale room number : ℕ) : Type 0 where
  pub known : number ≤ 30
  pub fits : on_paper scale (round number) ≤ room
  pub longest : (longer : ℕ) → number < longer → longer ≤ 30 → on_paper scale (round longer) ≤ room → ⊥

-- a bar from left to right, and after its right end a length in millimetres with its unit
unfoldable pub bar_text : ℕ → ℕ → ℕ → List ℕ → List ℕ
bar_text left right length unit = line_text (record { across = left; down = 195300 }) (record { across = right; down = 195300 })
    ++ (markup (codes "<g stroke=\"none\">") ++ (text_start (record { across = right + 2000; down = 196500 })
    ++ (millimetres length ++ (unit ++ (text_end ++ markup (codes "</g>\n"))))))

-- the bar of a round length at a scale: as long as that length is on paper, and named by it
abbrev pub bar_at : ℕ → ℕ → ℕ → List ℕ → List ℕ
bar_at scale left number unit = bar_text left (left + on_paper scale (round number)) (round number) unit

-- the bar of the longest length that fits at a scale
pub record IsBar (scale room left : ℕ) (unit text : List ℕ) : Type 0 where
  pub number : ℕ
  pub longest : IsLongest scale room number
  pub is : text ≡ bar_at scale left number unit

-- the black bar at the views' scale and the grey one at that of the whiskers
unfoldable pub bars_text : ℕ → ℕ → ℕ → ℕ → List ℕ
bars_text scale magnification bar magnified = markup (codes "<g stroke=\"#000\" stroke-width=\"0.8\">\n")
    ++ (bar_at scale 10000 bar (codes " mm")
    ++ (markup (codes "</g>\n<g stroke=\"#555\" stroke-width=\"0.5\">\n")
    ++ (bar_at magnification 85000 magnified (codes " mm of deviation") ++ markup (codes "</g>\n"))))

-- both bars, each the longest that fits
pub record AreBars (scale magnification : ℕ) (text : List ℕ) : Type 0 where
  pub bar : ℕ
  pub magnified : ℕ
  pub bar_is : IsLongest scale 50000 bar
  pub magnified_is : IsLongest magnification 15000 magnified
  pub are : text ≡ bars_text scale magnification bar magnified
