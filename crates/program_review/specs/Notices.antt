-- Statements that a review notices although they are accepted: those that are passed over though they change how the machine moves, what nominal values
-- mean or what an operator must do, and those that are probably not meant (ISO 22093; which they are is this profile's).
use Rattle.std.specs.Prelude.{Bool, false, ◌||◌, ℕ, List, [], ◌∷◌, ◌++◌, codes, Option, Some, None, if◌then◌else◌}
use Rattle.std.specs.Str.{bytes_eq}
use Rattle.dmis_text.specs.declared.elements.Statement.{Statement}
use Rattle.dmis_program.specs.Keywords.{keyword_of}
use Rattle.dmis_program.specs.Sayings.{is_badly_formed}
use Rattle.dmis_program.specs.declared.keywords.Keyword.TheVariants as word
use Rattle.program_lowering.specs.Texts.{begins_with}
use Rattle.program_review.specs.Remarks.{remark_on}
use Rattle.program_review.specs.UnderSetup.{is_end}
use Rattle.program_review.specs.declared.notices.Passed.{Passed}
use Rattle.program_review.specs.declared.notices.Passed.TheVariants as passed
use Rattle.program_review.specs.declared.remarks.Remark.{Remark}
use Rattle.program_review.specs.declared.remarks.What.{What}
use Rattle.program_review.specs.declared.remarks.What.TheVariants as what

-- the parameter after the first is `OFF`
abbrev pub is_off : List (List ℕ) → Bool
is_off [] = false
is_off (first ∷ rest) = begins_with (codes "OFF") rest

-- what an `SNSET` changes
abbrev pub sensor_setting : List (List ℕ) → Passed
sensor_setting params =
    if begins_with (codes "CLRSRF") params then (if is_off params then passed.ClearingOff else passed.Clearing) else
    if begins_with (codes "DEPTH") params then passed.Depth else
    if begins_with (codes "APPRCH") params || (begins_with (codes "RETRCT") params || begins_with (codes "SEARCH") params) then passed.Probing else
    passed.Sensor

-- what a text is that is for the operator
abbrev pub text_meaning : List (List ℕ) → Option Passed
text_meaning params =
    if begins_with (codes "OPER") params || begins_with (codes "MAN") params then Some passed.Operator else
    if begins_with (codes "QUERY") params then Some passed.Question else None

-- what a word changes that is passed over; a text only if it is for the operator
abbrev pub passed_word : List ℕ → List (List ℕ) → Option Passed
passed_word text params =
    if bytes_eq text (codes "PRCOMP") then Some passed.Compensation else
    if bytes_eq text (codes "FINPOS") then Some passed.Positioning else
    if bytes_eq text (codes "SNSET") then Some (sensor_setting params) else
    if bytes_eq text (codes "WKPLAN") then Some passed.Plane else
    if bytes_eq text (codes "FEDRAT") then Some passed.Speed else
    if bytes_eq text (codes "ACLRAT") then Some passed.Acceleration else
    if bytes_eq text (codes "TEXT") then text_meaning params else None

abbrev pub as_what : Option Passed → Option What
as_what None = None
as_what (Some change) = Some (what.Passed change)

-- what a statement changes that is passed over; none if it is refused for its form
abbrev pub passed_over : Statement → Option What
passed_over s = if is_badly_formed word.Passed s then None else as_what (passed_word s.word s.params)

-- each statement that is passed over and changes something, with its line, in order, up to the first `ENDFIL`
abbrev pub notices_of : List Statement → List Remark
notices_of [] = []
notices_of (s ∷ statements) = if is_end (keyword_of s.word) then [] else remark_on s.line (passed_over s) ++ notices_of statements
