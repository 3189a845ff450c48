-- What a view's picture has in addition to its marks: the title, the frame and the arrows of the axes.
use Rattle.std.specs.Prelude.{ℕ, List, ◌++◌, ◌-◌, codes}
use Rattle.fixed_um.specs.Written.{written}
use Rattle.drawings.specs.Marks.{way_text, dots_text, whiskers_text}
use Rattle.drawings.specs.Numbers.{numbers_text}
use Rattle.drawings.specs.Sheet.{Spot}
use Rattle.drawings.specs.Texts.{markup, frame_text, line_text, text_start, text_end, text_element}
use Rattle.drawings.specs.declared.seen.Seen.{Seen}
use Rattle.drawings.specs.declared.sides.Side.{Side}
use Rattle.drawings.specs.declared.sides.Side.TheVariants.{Plan, Front}
use Rattle.drawings.specs.declared.spans.Span.{Span}
use Rattle.drawings.specs.declared.views.View.{View}
use Rattle.drawings.specs.declared.walk.Stop.{Stop}
use Rattle.drawings.specs.declared.whiskers.Whiskers.{Whiskers}

abbrev pub spot : ℕ → ℕ → Spot
spot across down = record { across = across; down = down }

-- the name of a view, and the letter of the axis that is up in it
abbrev pub side_name : Side → List ℕ
side_name Plan = codes "Plan: "
side_name Front = codes "Front: "

abbrev pub up_letter : Side → List ℕ
up_letter Plan = codes "y"
up_letter Front = codes "z"

-- the range of a view along an axis
unfoldable pub span_text : List ℕ → Span → List ℕ
span_text name s = name ++ (written s.low ++ (codes " to " ++ written s.high))

-- the title: the view's name, and its ranges across and upwards
unfoldable pub title_text : View → List ℕ
title_text v = text_start (spot 10000 (v.top - 1500)) ++ (side_name v.side ++ (span_text (codes "x ") v.across
    ++ (span_text (codes ", " ++ (up_letter v.side ++ codes " ")) v.upright ++ text_end)))

-- the arrow of an axis: its shaft, and both strokes of its head
unfoldable pub arrow_text : Spot → Spot → Spot → Spot → List ℕ
arrow_text from to one other = line_text from to ++ (line_text to one ++ line_text to other)

-- the arrows of both axes, from a zero point in the frame's left lower corner
unfoldable pub arrows_text : View → List ℕ
arrows_text v = arrow_text (spot 13000 (v.bottom - 3000)) (spot 20000 (v.bottom - 3000)) (spot 19000 (v.bottom - 3500))
    (spot 19000 (v.bottom - 2500))
    ++ arrow_text (spot 13000 (v.bottom - 3000)) (spot 13000 (v.bottom - 10000)) (spot 12500 (v.bottom - 9000))
    (spot 13500 (v.bottom - 9000))

-- the letters of both axes
unfoldable pub letters_text : View → List ℕ
letters_text v = text_element (spot 20700 (v.bottom - 2000)) (codes "x")
    ++ text_element (spot 12200 (v.bottom - 11000)) (up_letter v.side)

-- the frame, and the axes in it
unfoldable pub axes_text : View → List ℕ
axes_text v = markup (codes "<g fill=\"none\" stroke=\"#000\" stroke-width=\"0.2\">\n")
    ++ (frame_text (spot 10000 v.top) (spot 217000 v.bottom)
    ++ (arrows_text v ++ (markup (codes "</g>\n") ++ letters_text v)))

-- a view: its title, its frame, the way of the machine, the points, the whiskers, the numbers
unfoldable pub picture_text : View → Whiskers → List Stop → List Seen → List ℕ
picture_text v w stops seen = title_text v ++ (axes_text v ++ (way_text v stops ++ (dots_text v stops
    ++ (whiskers_text v w seen ++ numbers_text v stops seen))))
