-- Every refusal of a text (this profile). A statement is judged by the rules of a program after the statements above it, where those that are
-- refused are left out but for what they certainly mean: a refused `MEAS` opens a block all the same, which asks for no touch; a refused
-- `PTMEAS` is a touch of its block; a refused `ENDMES` ends it; a refused `SNSLCT` selects some tool; a refused `ENDFIL` ends the program.
-- That there is no `DMISMN`, no tool, or a statement too many is listed once.
use Rattle.std.specs.Prelude.{ℕ, ◌+◌, ◌-◌, Bool, true, false, not, ◌&&◌, ◌||◌, List, [], ◌∷◌, ◌++◌, length, Option, Some, None}
use Rattle.std.specs.Prelude.{Result, Ok, Err, nat_lt, ◌==◌, if◌then◌else◌}
use Rattle.std.specs.Str.Lines.{lines}
use Rattle.dmis_text.specs.Reading.{text_reading}
use Rattle.dmis_text.specs.declared.elements.Statement.{Statement}
use Rattle.dmis_text.specs.declared.reading.TextFault.{TextFault}
use Rattle.fixed_um.specs.declared.frames.Frame.TheVariants.{Machine}
use Rattle.fixed_um.specs.declared.lengths.Point.{Point}
use Rattle.dmis_program.specs.Keywords.{keyword_of}
use Rattle.dmis_program.specs.LookBack.{Context}
use Rattle.dmis_program.specs.Judging.{judged, is_start}
use Rattle.dmis_program.specs.Meaning.{ended}
use Rattle.dmis_program.specs.declared.faults.Refusal.{Refusal}
use Rattle.dmis_program.specs.declared.faults.Refusal.TheVariants.{NotDmis, NoTool, TooLarge}
use Rattle.dmis_program.specs.declared.keywords.Keyword.{Keyword}
use Rattle.dmis_program.specs.declared.keywords.Keyword.TheVariants as word
use Rattle.dmis_program.specs.declared.sayings.StatementMeaning.{StatementMeaning}
use Rattle.dmis_program.specs.declared.sayings.StatementMeaning.TheVariants as said
use Rattle.program_review.specs.UnderSetup.{is_end}
use Rattle.program_review.specs.Groups.{group_of}
use Rattle.program_review.specs.Taken.{around_after, nothing_around, taken_by}
use Rattle.program_review.specs.Variables.{names_by, is_computed_move}
use Rattle.program_review.specs.declared.groups.Group.TheVariants as group
use Rattle.program_review.specs.declared.standing.Standing.{Standing}
use Rattle.program_review.specs.declared.remarks.Remark.{Remark}
use Rattle.program_review.specs.declared.remarks.What.{What}
use Rattle.program_review.specs.declared.remarks.What.TheVariants as what
use Rattle.program_review.specs.declared.taking.Around.{Around}
use Rattle.program_review.specs.declared.taking.Taken.TheVariants as taken

-- before any statement
abbrev pub at_start : Standing
at_start = record { number = 0; lacks_start = false; has_tool = false; lacking = None }

-- after how many statements one is judged: a `DMISMN` that was missed begins the program wherever it is, and after a statement too many
-- the others are judged as if there were few
abbrev pub number_at : Standing → Keyword → ℕ
number_at standing keyword =
    if standing.lacks_start && is_start keyword then 0 else
    if nat_lt 10000 standing.number then 1 else standing.number

-- some tool, or none
abbrev pub some_tool : Bool → Option (List ℕ)
some_tool true = Some []
some_tool false = None

-- what decides over a statement of this word: the touches that the open block still lacks are those that it asks for, and it has none
abbrev pub context_of : Standing → Keyword → Context
context_of standing keyword = record {
  number = number_at standing keyword;
  tool = some_tool standing.has_tool;
  frame = Machine;
  wanted = standing.lacking;
  touched = 0;
}

-- what a statement says after those above it, or the refusal that is due
abbrev pub due : List (List ℕ × Point) → Standing → Statement → Result StatementMeaning Refusal
due frames standing s = judged frames (context_of standing (keyword_of s.word)) s

-- one more statement, where one too many is enough
abbrev pub one_more : ℕ → ℕ
one_more number = if nat_lt 10000 number then number else number + 1

-- one more touch in the open block
abbrev pub one_less : Option ℕ → Option ℕ
one_less None = None
one_less (Some n) = Some (n - 1)

-- the touches that the open block lacks after a statement that says this
abbrev pub lacking_said : StatementMeaning → Option ℕ → Option ℕ
lacking_said (said.Begins name count) lacking = Some count
lacking_said (said.Touches target direction) lacking = one_less lacking
lacking_said said.Ends lacking = None
lacking_said _ lacking = lacking

abbrev pub is_selection : StatementMeaning → Bool
is_selection (said.Selects name) = true
is_selection _ = false

-- what stands after an accepted statement
abbrev pub after_said : Standing → Keyword → StatementMeaning → Standing
after_said standing keyword meaning = record {
  number = one_more standing.number;
  lacks_start = standing.lacks_start && not (is_start keyword);
  has_tool = standing.has_tool || is_selection meaning;
  lacking = lacking_said meaning standing.lacking;
}

-- the touches that the open block lacks after a refused statement of this word
abbrev pub lacking_passed : Keyword → Option ℕ → Option ℕ
lacking_passed word.Meas lacking = Some 0
lacking_passed word.Ptmeas lacking = one_less lacking
lacking_passed word.Endmes lacking = None
lacking_passed _ lacking = lacking

abbrev pub is_tool_word : Keyword → Bool
is_tool_word word.Snslct = true
is_tool_word _ = false

abbrev pub is_not_dmis : Refusal → Bool
is_not_dmis NotDmis = true
is_not_dmis _ = false

abbrev pub is_no_tool : Refusal → Bool
is_no_tool NoTool = true
is_no_tool _ = false

-- a refused statement counts if it is the first, or the one that is too many
abbrev pub number_passed : Refusal → ℕ → ℕ
number_passed NotDmis number = one_more number
number_passed TooLarge number = one_more number
number_passed _ number = if number == 0 then 1 else number

-- what stands after a refused statement
abbrev pub after_refused : Standing → Keyword → Refusal → Standing
after_refused standing keyword refusal = record {
  number = number_passed refusal standing.number;
  lacks_start = is_not_dmis refusal || (standing.lacks_start && not (is_start keyword));
  has_tool = standing.has_tool || (is_tool_word keyword || is_no_tool refusal);
  lacking = lacking_passed keyword standing.lacking;
}

-- the end of a text is refused by a mistake
abbrev pub ended_at : Refusal × ℕ → Remark
ended_at p = record { what = what.Refused p.0 group.Mistake taken.No; line = p.1 }

-- what is remarked on a refused statement: a computed move is control flow
abbrev pub found : Around → (computed : Bool) → Refusal → Statement → Remark
found around computed refusal s = record {
  what = what.Refused refusal (if computed then group.Flow else group_of refusal s.word) (taken_by around computed refusal s);
  line = s.line;
}

-- the refusal of a statement below those that declare or assign these names
abbrev pub listed : List (List ℕ) → Around → Statement → Result StatementMeaning Refusal → List Remark
listed names around s (Ok meaning) = []
listed names around s (Err refusal) = found around (is_computed_move names refusal s) refusal s ∷ []

abbrev pub after : Standing → Keyword → Result StatementMeaning Refusal → Standing
after standing keyword (Ok meaning) = after_said standing keyword meaning
after standing keyword (Err refusal) = after_refused standing keyword refusal

-- the refusals of the statements from here on, below those that declare or assign these names, and that of the text's end if no `ENDFIL`
-- comes before it
abbrev pub refusals_from : List (List ℕ × Point) → Option TextFault → ℕ → List (List ℕ) → Around → Standing → List Statement → List Remark
refusals_from frames fault lines names around standing [] = ended_at (ended fault standing.number lines) ∷ []
refusals_from frames fault lines names around standing (s ∷ statements) = listed names around s (due frames standing s)
    ++ (if is_end (keyword_of s.word) then [] else refusals_from frames fault lines (names ++ names_by s) (around_after around s)
    (after standing (keyword_of s.word) (due frames standing s)) statements)

-- all refusals of a text, in the order of its statements
abbrev pub refusals_of : List (List ℕ × Point) → List ℕ → List Remark
refusals_of frames text = refusals_from frames (text_reading text).fault (length (lines text)) [] nothing_around at_start (text_reading text).statements

-- the first of them, as a program is refused
abbrev pub refused_on : What → ℕ → Option (Refusal × ℕ)
refused_on (what.Refused refusal group taken) line = Some (refusal, line)
refused_on _ line = None

abbrev pub first_of : List Remark → Option (Refusal × ℕ)
first_of [] = None
first_of (found ∷ more) = refused_on found.what found.line

-- why a program is refused; none if it is accepted
abbrev pub fault_of : {A : Type 0} → Result A (Refusal × ℕ) → Option (Refusal × ℕ)
fault_of (Ok x) = None
fault_of (Err e) = Some e
