-- What a setup lacks for a program: tools that are selected and not in the rack, and moves and touches out of the machine's volume.
use Rattle.std.specs.Prelude.{ℕ, Bool, true, false, not, ◌&&◌, List, [], ◌∷◌, ◌++◌, Option, Some, None, Result, Ok, Err, nat_le, unsigned_abs}
use Rattle.std.specs.Prelude.{if◌then◌else◌}
use Rattle.dmis_text.specs.declared.elements.Statement.{Statement}
use Rattle.fixed_um.specs.Limits.{volume_limit}
use Rattle.fixed_um.specs.Points.{point_sum}
use Rattle.fixed_um.specs.declared.lengths.Point.{Point}
use Rattle.tool_rack.specs.Setups.{has_name}
use Rattle.dmis_program.specs.Keywords.{keyword_of}
use Rattle.dmis_program.specs.Sayings.{said_of}
use Rattle.dmis_program.specs.Offsets.{offset_of}
use Rattle.dmis_program.specs.Parameters.{is_other_recall}
use Rattle.dmis_program.specs.declared.faults.Refusal.{Refusal}
use Rattle.dmis_program.specs.declared.keywords.Keyword.{Keyword}
use Rattle.dmis_program.specs.declared.keywords.Keyword.TheVariants as word
use Rattle.dmis_program.specs.declared.sayings.StatementMeaning.{StatementMeaning}
use Rattle.dmis_program.specs.declared.sayings.StatementMeaning.TheVariants as said
use Rattle.program_review.specs.Remarks.{remark_on}
use Rattle.program_review.specs.declared.under_setup.Selected.{Selected}
use Rattle.program_review.specs.declared.under_setup.Selected.TheVariants as selected
use Rattle.program_review.specs.declared.under_setup.Lack.{Lack}
use Rattle.program_review.specs.declared.under_setup.Lack.TheVariants as lack
use Rattle.program_review.specs.declared.remarks.Remark.{Remark}
use Rattle.program_review.specs.declared.remarks.What.{What}
use Rattle.program_review.specs.declared.remarks.What.TheVariants as what

-- what a statement says by itself; none if it is refused for itself, its word is unknown, or it recalls what is not read, as a `DA(..)`
abbrev pub accepted : Result StatementMeaning Refusal → Option StatementMeaning
accepted (Ok meaning) = Some meaning
accepted (Err refusal) = None

abbrev pub recalls_other : Keyword → List (List ℕ) → Bool
recalls_other word.Recall params = is_other_recall params
recalls_other _ params = false

abbrev pub meaning_with : Keyword → Statement → Option StatementMeaning
meaning_with word.Unknown s = None
meaning_with keyword s = if recalls_other keyword s.params then None else accepted (said_of keyword s)

abbrev pub meaning_of : Statement → Option StatementMeaning
meaning_of s = meaning_with (keyword_of s.word) s

-- the frame of a name that is recalled; unknown if it is not stored
abbrev pub recalled : Option Point → Selected
recalled None = selected.Unknown
recalled (Some offset) = selected.Stored offset

-- the frame that is selected after a statement: a `RECALL` that is refused selects an unknown one
abbrev pub selected_after : List (List ℕ × Point) → Selected → Option StatementMeaning → Keyword → Selected
selected_after frames before None word.Recall = selected.Unknown
selected_after frames before (Some (said.Recalls name)) keyword = recalled (offset_of frames name)
selected_after frames before meaning keyword = before

-- each axis is within the machine's volume
abbrev pub is_within : Point → Bool
is_within p = nat_le (unsigned_abs p.x) volume_limit && (nat_le (unsigned_abs p.y) volume_limit && nat_le (unsigned_abs p.z) volume_limit)

-- a position in the axes of a frame is out of the volume in machine axes; where the frame is unknown nothing is said
abbrev pub is_outside : Selected → Point → Bool
is_outside selected.Machine target = not (is_within target)
is_outside (selected.Stored offset) target = not (is_within (point_sum target offset))
is_outside selected.Unknown target = false

-- what the setup lacks for a statement that says this
abbrev pub when : Bool → Lack → Option What
when true lacking = Some (what.Lack lacking)
when false lacking = None

abbrev pub lack_of : List (List ℕ) → Selected → Option StatementMeaning → Option What
lack_of tools before (Some (said.Selects name)) = when (not (has_name tools name)) lack.Tool
lack_of tools before (Some (said.Goes target)) = when (is_outside before target) lack.Volume
lack_of tools before (Some (said.Touches target direction)) = when (is_outside before target) lack.Volume
lack_of tools before _ = None

-- `ENDFIL` ends the program, refused or not
abbrev pub is_end : Keyword → Bool
is_end word.Endfil = true
is_end _ = false

-- what the setup lacks for each statement from here on, where this frame is selected before them; nothing counts after `ENDFIL`
abbrev pub lacks_from : List (List ℕ) → List (List ℕ × Point) → Selected → List Statement → List Remark
lacks_from tools frames before [] = []
lacks_from tools frames before (s ∷ statements) = if is_end (keyword_of s.word) then [] else
    remark_on s.line (lack_of tools before (meaning_of s)) ++ lacks_from tools frames
    (selected_after frames before (meaning_of s) (keyword_of s.word)) statements

-- what a setup with these tools and frames lacks for the statements of a program, at whose start machine coordinates are selected
abbrev pub lacks_of : List (List ℕ) → List (List ℕ × Point) → List Statement → List Remark
lacks_of tools frames statements = lacks_from tools frames selected.Machine statements
