-- What is written below the views: the bars, what the marks mean, the scales in words, and how much is measured.
use Rattle.std.specs.Prelude.{◌≡◌, ℕ, List, ◌++◌, ◌*◌, codes, decimal, Bool, true, false, length, filter, ◌==◌, if◌then◌else◌}
use Rattle.drawings.specs.Bars.{AreBars}
use Rattle.drawings.specs.Pictures.{spot}
use Rattle.drawings.specs.Scales.{numerator, denominator}
use Rattle.drawings.specs.Stops.{touches_among}
use Rattle.drawings.specs.Texts.{markup, disc_text, line_text, text_start, text_end, text_element, millimetres}
use Rattle.drawings.specs.declared.walk.Act.{Act}
use Rattle.drawings.specs.declared.walk.Act.TheVariants as act
use Rattle.drawings.specs.declared.walk.Stop.{Stop}
use Rattle.drawings.specs.declared.whiskers.Whiskers.{Whiskers}

-- a scale: the ratio of paper to part, with a decimal where it needs one
unfoldable pub ratio_text : ℕ → List ℕ
ratio_text scale = millimetres (numerator scale * 100) ++ (codes ":" ++ millimetres (denominator scale * 100))

-- the marks that the legend explains: a measured point, one that is not measured yet, and the way of the machine
unfoldable pub legend_marks : List ℕ
legend_marks = markup (codes "<g fill=\"#000\">\n") ++ (disc_text (spot 160000 195300) 800
    ++ (markup (codes "</g>\n<g fill=\"#fff\" stroke=\"#000\" stroke-width=\"0.25\">\n")
    ++ (disc_text (spot 186000 195300) 800 ++ (markup (codes "</g>\n<g stroke=\"#777\" stroke-width=\"0.15\">\n")
    ++ (line_text (spot 224500 195300) (spot 234500 195300) ++ markup (codes "</g>\n"))))))

-- what the colours and the thickness of whiskers mean
abbrev pub colour_words : List ℕ
colour_words = codes "Along the normal: red too much material, blue too little, grey as wanted or no normal; thin: more across than along. Bars: the greatest of each feature."

-- what the marks mean
unfoldable pub legend_words : List ℕ
legend_words = text_element (spot 162500 196500) (codes "measured")
    ++ (text_element (spot 188500 196500) (codes "not measured yet")
    ++ (text_element (spot 236500 196500) (codes "way of the machine")
    ++ text_element (spot 10000 200300) colour_words))

-- how many points of stops are measured, and how many are requested
abbrev pub is_measured : Act → Bool
is_measured (act.Measured gap) = true
is_measured act.Move = false
is_measured act.Touch = false

abbrev pub measured_count : List Stop → ℕ
measured_count stops = length (filter (λ (s : Stop). is_measured s.act) stops)

abbrev pub asked_count : List Stop → ℕ
asked_count stops = length (touches_among stops)

-- how many of how many points are measured
unfoldable pub counts_text : ℕ → ℕ → List ℕ
counts_text measured asked = decimal measured ++ (markup (codes " of ") ++ (decimal asked ++ markup (codes " points measured.")))

-- whether there is any deviation
abbrev pub magnified_words : ℕ → List ℕ
magnified_words longest = if longest == 0 then markup (codes ". No deviation, magnification ") else markup (codes ". Deviations magnified ")

-- the scale of the views, that of the whiskers, and how much is measured
unfoldable pub caption_text : ℕ → Whiskers → ℕ → ℕ → List ℕ
caption_text scale w measured asked = text_start (spot 10000 204000) ++ (markup (codes "Lengths in mm, machine axes. Scale ")
    ++ (ratio_text scale ++ (magnified_words w.longest ++ (ratio_text w.scale ++ (markup (codes ". ")
    ++ (counts_text measured asked ++ text_end))))))

-- the bars, the legend, and the caption with the counts of stops
pub record IsFooter (scale : ℕ) (w : Whiskers) (stops : List Stop) (text : List ℕ) : Type 0 where
  pub bars : List ℕ
  pub bars_are : AreBars scale w.scale bars
  pub is : text ≡ bars ++ (legend_marks ++ (legend_words ++ caption_text scale w (measured_count stops) (asked_count stops)))
