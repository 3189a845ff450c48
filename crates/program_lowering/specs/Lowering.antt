-- The flat program that a program stands for, and what was decided about it (this profile).
use Rattle.std.specs.Prelude.{ℕ, ◌+◌, ◌==◌, Bool, false, true, not, List, [], ◌∷◌, ◌++◌, length, codes, flat_map, map, Option, Some, None}
use Rattle.std.specs.Prelude.{Result, Ok, Err, ◌&&◌, if◌then◌else◌}
use Rattle.std.specs.Str.Lines.{lines}
use Rattle.dmis_text.specs.Reading.{text_reading}
use Rattle.dmis_text.specs.declared.elements.Statement.{Statement}
use Rattle.fixed_um.specs.declared.lengths.Point.{Point}
use Rattle.dmis_program.specs.Keywords.{keyword_of}
use Rattle.dmis_program.specs.LookBack.{saying}
use Rattle.dmis_program.specs.Meaning.{Meaning, closes, meaning_of}
use Rattle.dmis_program.specs.declared.faults.Refusal.{Refusal}
use Rattle.dmis_program.specs.declared.sayings.StatementMeaning.{StatementMeaning}
use Rattle.dmis_program.specs.declared.sayings.StatementMeaning.TheVariants as said
use Rattle.program_lowering.specs.Prompts.{Answer, answered}
use Rattle.program_lowering.specs.Words.{left_out, passed_reason}
use Rattle.program_lowering.specs.Manual.{in_manual, is_skipped}
use Rattle.program_lowering.specs.Flats.{Flat, flat_line, note_line, with_pass}
use Rattle.program_lowering.specs.StoredFrames.{by_frame, frame_notes, if_stored, is_used}
use Rattle.program_lowering.specs.Texts.{is_operator_text}
use Rattle.program_lowering.specs.Inches.{all_stated}
use Rattle.program_flow.specs.Calls.{carried_out}
use Rattle.program_lowering.specs.Cartesian.{all_cartesian, no_reference}
use Rattle.program_lowering.specs.Valued.{all_valued}
use Rattle.program_lowering.specs.OperatorTexts.{flat_meant, up_to_refused}
use Rattle.program_lowering.specs.EvenTouches.{touched_from}
use Rattle.program_lowering.specs.Reasons.{detail, joint, reason_text}
use Rattle.program_lowering.specs.declared.words.Choices.{Choices}
use Rattle.program_lowering.specs.declared.words.Reason.{Reason}
use Rattle.program_lowering.specs.declared.words.Reason.TheVariants.{Manual}

-- why a statement is left out, where the operator measures or not
abbrev pub left_out_in : Choices → Bool → Statement → Option Reason
left_out_in choices manual s = if choices.skip_manual && is_skipped manual s then Some Manual else left_out choices s

-- likewise by those above it. The first, which begins the program, is never left out
abbrev pub left_out_at : Choices → List Statement → Statement → Option Reason
left_out_at choices [] s = None
left_out_at choices (t ∷ above) s = left_out_in choices (in_manual (s ∷ (t ∷ above))) s

-- the statements that count: those that are not left out, with frames by name
abbrev pub unless_left_out : {A : Type 0} → Option Reason → A → List A
unless_left_out None s = s ∷ []
unless_left_out (Some reason) s = []

-- likewise of those above, the nearest first
abbrev pub kept_above : Choices → List Statement → List Statement
kept_above choices [] = []
kept_above choices (s ∷ above) = unless_left_out (left_out_at choices above s) (by_frame choices (is_used (kept_above choices above)) s) ++ kept_above choices above

abbrev pub counted_at : Choices → List Statement → Statement → Statement
counted_at choices above s = by_frame choices (is_used (kept_above choices above)) s

abbrev pub kept_below : Choices → List Statement → List Statement → List Statement
kept_below choices above [] = []
kept_below choices above (s ∷ statements) = unless_left_out (left_out_at choices above s) (counted_at choices above s) ++ kept_below choices (s ∷ above) statements

abbrev pub kept : Choices → List Statement → List Statement
kept choices statements = kept_below choices [] statements

-- the passes over a line, in the statements down to here, the nearest first. Each begins with a statement on it that is directly below none on
-- it: every way back (an ENDDO, a JUMPTO, a CALL) comes out as a statement on a line of its own, and what a block is given is on that of its end
abbrev pub is_on : ℕ → List Statement → Bool
is_on line [] = false
is_on line (s ∷ above) = line == s.line

abbrev pub passes_over : ℕ → List Statement → ℕ
passes_over line [] = 0
passes_over line (s ∷ above) = if line == s.line && not (is_on line above) then passes_over line above + 1 else passes_over line above

-- none is directly below another on its line
abbrev pub are_apart : List Statement → Bool
are_apart [] = true
are_apart (s ∷ above) = not (is_on s.line above) && are_apart above

-- that of each statement that counts: those that are left out are passed, too
abbrev pub passes_below : Choices → List Statement → List Statement → List ℕ
passes_below choices above [] = []
passes_below choices above (s ∷ statements) =
    unless_left_out (left_out_at choices above s) (passes_over s.line (s ∷ above)) ++ passes_below choices (s ∷ above) statements

abbrev pub kept_passes : Choices → List Statement → List ℕ
kept_passes choices statements = passes_below choices [] statements

-- the statements of a text with answers as they are carried out, with their values and in Cartesian coordinates
abbrev pub valued_statements : List Answer → List ℕ → List Statement
valued_statements answers text = all_cartesian no_reference (all_valued [] (carried_out (map (answered answers) (text_reading text).statements)))

-- and with the touches that blocks are given
abbrev pub prepared : Choices → List Answer → List ℕ → List Statement
prepared choices answers text = touched_from choices [] (valued_statements answers text)

-- what those that count mean in millimetres, up to a text for the operator that one line cannot hold, or the first refusal with its line
abbrev pub lowered_meaning : List (List ℕ × Point) → Choices → List Answer → List ℕ → Result Meaning (Refusal × ℕ)
lowered_meaning frames choices answers text =
    meaning_of frames (up_to_refused (text_reading text).fault (all_stated [] (kept choices (prepared choices answers text)))) (length (lines text))

-- a statement that closes the program
abbrev pub is_closing : Result StatementMeaning Refusal → Bool
is_closing (Ok meaning) = closes meaning
is_closing (Err refusal) = false

-- what is written of a statement, by what it says
abbrev pub flat_of : Statement → Result StatementMeaning Refusal → Option Flat
flat_of s (Ok meaning) = flat_meant s meaning
flat_of s (Err refusal) = None

-- the line that is written, if one is
abbrev pub line_for : ℕ → ℕ → Option Flat → List (List ℕ)
line_for line pass None = []
line_for line pass (Some f) = with_pass (flat_line f line) pass ∷ []

-- the lines of statements with these passes, up to the one that closes the program
abbrev pub first_pass : List ℕ → ℕ
first_pass [] = 1
first_pass (pass ∷ passes) = pass

abbrev pub other_passes : List ℕ → List ℕ
other_passes [] = []
other_passes (pass ∷ passes) = passes

abbrev pub flat_lines : List ℕ → List Statement → List (List ℕ)
flat_lines passes [] = []
flat_lines passes (s ∷ statements) = line_for s.line (first_pass passes) (flat_of s (saying s))
    ++ (if is_closing (saying s) then [] else flat_lines (other_passes passes) statements)

-- a line with its end, and lines with their ends: LF is 10
abbrev pub ended : List ℕ → List ℕ
ended line = line ++ 10 ∷ []

abbrev pub ended_lines : List (List ℕ) → List ℕ
ended_lines written = flat_map ended written

-- the flat program of a text, but for its head
abbrev pub flat_program : Choices → List Answer → List ℕ → List ℕ
flat_program choices answers text = ended_lines (flat_lines (kept_passes choices (prepared choices answers text)) (all_stated [] (kept choices (prepared choices answers text))))

-- why nothing is written of a statement: it is left out, or commands nothing
abbrev pub passed_over : Statement → Result StatementMeaning Refusal → Option Reason
passed_over s (Ok said.Passes) = if is_operator_text s then None else passed_reason (keyword_of s.word) s.word
passed_over s _ = None

-- the line that says so
unfoldable pub note_start : Statement → List ℕ
note_start s = note_line s.line ++ s.word

abbrev pub note_for : Statement → Option Reason → List ℕ
note_for s None = []
note_for s (Some reason) = note_start s ++ ended (joint reason ++ (reason_text reason ++ detail reason s.params))

abbrev pub note_at : Option Reason → Statement → Statement → List ℕ
note_at (Some reason) s counted = note_for s (Some reason)
note_at None s counted = note_for counted (passed_over counted (saying counted))

-- one for each such statement, up to the one that closes the program
abbrev pub notes_from : Choices → List Statement → List Statement → List ℕ
notes_from choices above [] = []
notes_from choices above (s ∷ statements) = note_at (left_out_at choices above s) s (counted_at choices above s)
    ++ (if is_closing (saying (counted_at choices above s)) then [] else notes_from choices (s ∷ above) statements)

abbrev pub notes_of : Choices → List Answer → List ℕ → List ℕ
notes_of choices answers text = notes_from choices [] (prepared choices answers text)
    ++ if_stored choices (frame_notes (all_stated [] (kept choices (prepared choices answers text))))
