-- The peak of a feature: of the deviations along the normals of its points, the one of the greatest magnitude.
use Rattle.std.specs.Prelude.{◌≡◌, ℕ, ℤ, pos, negsuc, ◌+◌, ◌-◌, ◌*◌, ◌/◌, min, max, fold, nat_lt, unsigned_abs, List, [], ◌∷◌, ◌++◌, codes}
use Rattle.std.specs.Prelude.{Option, Some, None, if◌then◌else◌}
use Rattle.deviations.specs.Along.{deviation}
use Rattle.deviations.specs.Rows.{IsAlongNormal}
use Rattle.dmis_program.specs.declared.features.Touch.{Touch}
use Rattle.fixed_um.specs.Written.{written}
use Rattle.fixed_um.specs.declared.lengths.Point.{Point}
use Rattle.drawings.specs.BarCells.{magnitude}
use Rattle.drawings.specs.Marks.{colour_of}
use Rattle.drawings.specs.Sheet.{Spot}
use Rattle.drawings.specs.Texts.{markup, frame_text, line_text, text_start, text_end}
use Rattle.drawings.specs.declared.marks.Mark.{Mark}

-- the first of two deviations, unless the second is the greater one; one that has no normal is passed over
abbrev pub farther_out : Option ℤ → Option ℤ → Option ℤ
farther_out None next = next
farther_out (Some peak) None = Some peak
farther_out (Some peak) (Some next) = if nat_lt (unsigned_abs peak) (unsigned_abs next) then Some next else Some peak

-- the peak of touches that have measured these points, and of the deviation before them
abbrev pub IsPeakAfter : Option ℤ → List Touch → List Point → Option ℤ → Type 0
IsPeakAfter before [] points peak = peak ≡ before
IsPeakAfter before (t ∷ touches) [] peak = peak ≡ before
IsPeakAfter before (t ∷ touches) (p ∷ points) peak =
    (along : Option ℤ) × IsAlongNormal (deviation p t.target) t.dir along × IsPeakAfter (farther_out before along) touches points peak

-- the greatest magnitude of the peaks of a part, at least one micrometre
abbrev pub greatest_peak : List Mark → ℕ
greatest_peak marks = fold (λ most (m : Mark). max most (magnitude m.peak)) 1 marks

-- the bar of a peak: the greatest is 8 mm long
abbrev pub peak_length : ℕ → ℕ → ℕ
peak_length most n = min (n * 8000 / most) 8000

-- its ends: it goes from the axis to the right if there is too much material, to the left if too little
abbrev pub left_end : ℤ → ℕ → ℕ
left_end (pos _) length = 274500
left_end (negsuc _) length = 274500 - length

abbrev pub right_end : ℤ → ℕ → ℕ
right_end (pos _) length = 274500 + length
right_end (negsuc _) length = 274500

abbrev pub spot_at : ℕ → ℕ → Spot
spot_at across down = record { across = across; down = down }

-- a bar at a line, and the axis
unfoldable pub peak_bar : List ℕ → ℕ → ℕ → ℕ → List ℕ
peak_bar colour left right line = markup (codes "<g stroke=\"none\" fill=\"") ++ (markup colour ++ (markup (codes "\">")
    ++ (frame_text (spot_at left (line - 2000)) (spot_at right line)
    ++ (markup (codes "</g>\n") ++ line_text (spot_at 274500 (line - 3000)) (spot_at 274500 (line + 1000))))))

-- a deviation in millimetres at a position
unfoldable pub along_text : Spot → ℤ → List ℕ
along_text at along = text_start at ++ (written along ++ text_end)

-- the peak, to the right of the bar
unfoldable pub peak_number : ℤ → ℕ → List ℕ
peak_number along line = markup (codes "<g stroke=\"none\" text-anchor=\"end\">") ++ (along_text (spot_at 294000 line) along
    ++ markup (codes "</g>\n"))

-- the bar, in the colour of whiskers to its side, and the number of a feature's peak in a part with this greatest one; nothing if no point
-- of it has a deviation along a normal
abbrev pub peak_text : ℕ → Option ℤ → ℕ → List ℕ
peak_text most (Some along) line = peak_bar (colour_of (Some along)) (left_end along (peak_length most (unsigned_abs along)))
    (right_end along (peak_length most (unsigned_abs along))) line ++ peak_number along line
peak_text most None line = []
