-- The straight travels of a program: from the last touch of a feature to the first touch of the next one, with no `GOTO` between (ISO 22093; that
-- a client makes no other move there is this profile). A block with an accepted touch is a feature.
use Rattle.std.specs.Prelude.{◌≤◌, ◌<◌, ◌+◌, ◌*◌, ◌==◌, ℤ, ◌-ℤ◌, unsigned_abs, ℕ, Bool, true, false, ◌&&◌, ◌||◌, is_some, is_none, option_and_then, List, [], ◌∷◌, ◌++◌, codes, Option, Some, None, pos, if◌then◌else◌}
use Rattle.dmis_text.specs.declared.elements.Statement.{Statement}
use Rattle.fixed_um.specs.Points.{zero_point, point_sum}
use Rattle.fixed_um.specs.declared.lengths.Point.{Point}
use Rattle.dmis_program.specs.Keywords.{keyword_of, is_among}
use Rattle.dmis_program.specs.Offsets.{offset_of}
use Rattle.dmis_program.specs.declared.keywords.Keyword.{Keyword}
use Rattle.dmis_program.specs.declared.keywords.Keyword.TheVariants as word
use Rattle.dmis_program.specs.declared.sayings.StatementMeaning.{StatementMeaning}
use Rattle.dmis_program.specs.declared.sayings.StatementMeaning.TheVariants as said
use Rattle.program_review.specs.Groups.{coordinates}
use Rattle.program_review.specs.PlanLines.{unlabelled}
use Rattle.program_review.specs.Remarks.{remark_on}
use Rattle.program_review.specs.UnderSetup.{meaning_of, is_end}
use Rattle.program_review.specs.declared.remarks.Remark.{Remark}
use Rattle.program_review.specs.declared.remarks.What.{What}
use Rattle.program_review.specs.declared.remarks.What.TheVariants as what
use Rattle.program_review.specs.declared.travels.Stop.{Stop}
use Rattle.program_review.specs.declared.travels.Travel.{Travel}
use Rattle.program_review.specs.declared.travels.Way.{Way}

-- before any statement the machine's own coordinates are selected, no block is open, and where the probe is, is not known
abbrev pub at_home : Way
at_home = record { zero = Some zero_point; set_on = 0; is_stored = false; is_by_hand = false; is_open = false; has_begun = false; last = None }

-- after the statement of a line selects coordinates with this zero point, if it is known, which a stored frame has
abbrev pub way_selected : Way → Option Point → ℕ → Way
way_selected way zero line = record way { zero = zero; set_on = line; is_stored = way.is_stored || is_some zero }

-- after a `RECALL` that says this: of a stored frame, refused, or of no frame
abbrev pub way_recalling : List (List ℕ × Point) → Way → ℕ → Option StatementMeaning → Way
way_recalling frames way line None = way_selected way None line
way_recalling frames way line (Some (said.Recalls name)) = way_selected way (offset_of frames name) line
way_recalling frames way line (Some meaning) = way

abbrev pub way_recalled : List (List ℕ × Point) → Way → Statement → Way
way_recalled frames way s = way_recalling frames way s.line (meaning_of s)

-- the touch that a statement makes in a block; where the probe is after one that is refused for itself, or outside a block, is not known
abbrev pub stop_with : Way → ℕ → Option StatementMeaning → Option Stop
stop_with way line (Some (said.Touches target direction)) = if way.is_open then
    Some (record { line = line; target = target; zero = way.zero; set_on = way.set_on }) else None
stop_with way line _ = None

abbrev pub stop_at : Way → Statement → Option Stop
stop_at way s = stop_with way s.line (meaning_of s)

-- after a move, or a touch whose place is not known; and after a touch whose place is known, since which no block has begun
abbrev pub way_stopped : Way → Option Stop → Way
way_stopped way last = record way { has_begun = way.has_begun && is_none last; last = last }

-- after a statement: blocks begin and end by their words, refused or not; a `GOTO` is a move, refused or not; a word that sets up or keeps
-- coordinates selects unknown ones; a refused `MODE` leaves the touches that follow to the operator
abbrev pub way_with : Keyword → List (List ℕ × Point) → Way → Statement → Way
way_with word.Recall frames way s = way_recalled frames way s
way_with word.Unknown frames way s = if is_among s.word coordinates then way_selected way None s.line else way
way_with word.Mode frames way s = record way { is_by_hand = is_none (meaning_of s) }
way_with word.Meas frames way s = record way { is_open = true; has_begun = true }
way_with word.Endmes frames way s = record way { is_open = false }
way_with word.Goto frames way s = way_stopped way None
way_with word.Ptmeas frames way s = way_stopped way (stop_at way s)
way_with _ frames way s = way

abbrev pub way_after : List (List ℕ × Point) → Way → Statement → Way
way_after frames way s = way_with (keyword_of s.word) frames way s

-- the travel to a touch from the one before is straight if no move came since, and it is to another feature if a block has begun since
abbrev pub travel_from : Bool → Stop → Stop → Option What
travel_from begun first last = if begun then Some (what.Straight (record { last = last; first = first })) else None

abbrev pub travel_to : Way → Statement → Option What
travel_to way s = option_and_then (λ first. option_and_then (travel_from way.has_begun first) way.last) (stop_at way s)

-- each touch to which a travel is straight, of the statements from here on; nothing counts after `ENDFIL`
abbrev pub travels_from : List (List ℕ × Point) → Way → List Statement → List Remark
travels_from frames way [] = []
travels_from frames way (s ∷ statements) = if is_end (keyword_of s.word) then [] else
    remark_on s.line (travel_to way s) ++ travels_from frames (way_after frames way s) statements

abbrev pub travels_of : List (List ℕ × Point) → List Statement → List Remark
travels_of frames statements = travels_from frames at_home statements

-- ---- their lengths

-- the zero points of the coordinates of two touches, seen from one place; none if they differ and are not both known
abbrev pub same_zeros : Bool → Option (Point × Point)
same_zeros is_same = if is_same then Some (zero_point, zero_point) else None

abbrev pub zeros : Option Point → Option Point → Bool → Option (Point × Point)
zeros (Some last) (Some first) is_same = Some (last, first)
zeros (Some last) None is_same = same_zeros is_same
zeros None first is_same = same_zeros is_same

unfoldable pub squared : ℤ → ℕ
squared length = unsigned_abs length * unsigned_abs length

abbrev pub squared_distance : Point → Point → ℕ
squared_distance p q = squared (q.x -ℤ p.x) + squared (q.y -ℤ p.y) + squared (q.z -ℤ p.z)

abbrev pub squared_between : Point → Point → Option (Point × Point) → Option ℕ
squared_between p q None = None
squared_between p q (Some zero) = Some (squared_distance (point_sum p zero.0) (point_sum q zero.1))

-- the square of a travel's length, in square micrometres
abbrev pub squared_length : Travel → Option ℕ
squared_length t = squared_between t.last.target t.first.target (zeros t.last.zero t.first.zero (t.last.set_on == t.first.set_on))

-- the greatest whole number of micrometres that is not above the length with this square
pub record IsWholeRoot (square root : ℕ) : Type 0 where
  pub reached : root * root ≤ square
  pub short : square < (root + 1) * (root + 1)

abbrev pub IsLength : Option ℕ → Option ℕ → Type 0
IsLength None None = Unit {0}
IsLength None (Some root) = ⊥
IsLength (Some square) None = ⊥
IsLength (Some square) (Some root) = IsWholeRoot square root

-- ---- examples: statements on their lines, touches at x, 0, 0

abbrev pub meas_on : ℕ → Statement
meas_on line = unlabelled line (codes "MEAS") (codes "POINT" ∷ (codes "F(A)" ∷ (codes "1" ∷ [])))

abbrev pub ptmeas_on : ℕ → List ℕ → Statement
ptmeas_on line x = unlabelled line (codes "PTMEAS") (codes "CART" ∷ (x ∷ (codes "0" ∷ (codes "0" ∷ []))))

abbrev pub endmes_on : ℕ → Statement
endmes_on line = unlabelled line (codes "ENDMES") []

abbrev pub goto_on : ℕ → Statement
goto_on line = unlabelled line (codes "GOTO") (codes "0" ∷ (codes "0" ∷ (codes "9" ∷ [])))

-- a feature of one touch from this line on, and the statements after it
abbrev pub feature_on : ℕ → List ℕ → List Statement → List Statement
feature_on line x statements = meas_on line ∷ (ptmeas_on (line + 1) x ∷ (endmes_on (line + 2) ∷ statements))

-- the travel between touches on two lines, each with its x in micrometres
abbrev pub stop_on : ℕ → ℕ → Stop
stop_on line x = record { line = line; target = record { x = pos x; y = pos 0; z = pos 0 }; zero = Some zero_point; set_on = 0 }

abbrev pub travel_on : (line x next_line next_x : ℕ) → Remark
travel_on line x next_line next_x =
    record { what = what.Straight (record { last = stop_on line x; first = stop_on next_line next_x }); line = next_line }
