-- Texts for the operator, and what a run holds back at them (ISO 22093; where a run waits is this profile's).
use Rattle.std.specs.Prelude.{ℕ, Bool, true, false, ◌&&◌, ◌||◌, not, List, [], ◌∷◌, ◌++◌, ◌+◌, ◌-◌, ◌^◌, codes, Option, Some, None}
use Rattle.std.specs.Prelude.{if◌then◌else◌, min, count_by, nat_lt, nat_eq}
use Rattle.std.specs.Str.{bytes_eq}
use Rattle.dmis_text.specs.declared.elements.Statement.{Statement}
use Rattle.dmis_program.specs.Keywords.{keyword_of}
use Rattle.dmis_program.specs.declared.keywords.Keyword.TheVariants as word
use Rattle.dmis_program.specs.declared.sayings.StatementMeaning.{StatementMeaning}
use Rattle.dmis_program.specs.declared.sayings.StatementMeaning.TheVariants as said
use Rattle.order_parts.specs.Pauses.{Held}
use Rattle.program_lowering.specs.Texts.{is_operator_text}
use Rattle.program_review.specs.PlanLines.{unlabelled}
use Rattle.program_review.specs.TaskLines.{up_to_touch, after_touch, last_line, command_lines_of}
use Rattle.program_review.specs.UnderSetup.{meaning_with, is_end}
use Rattle.program_review.specs.declared.tasks.Task.{Task}
use Rattle.program_review.specs.declared.tasks.Task.TheVariants as task
use Rattle.program_review.specs.declared.tasks.TaskLine.{TaskLine}
use Rattle.program_review.specs.declared.texts.OperatorText.{OperatorText}

-- whether a block is open after a statement that says this
abbrev pub is_open_after : Bool → Option StatementMeaning → Bool
is_open_after inside (Some (said.Begins name count)) = true
is_open_after inside (Some said.Ends) = false
is_open_after inside meaning = inside

-- the line of a text, and whether it is in a block
abbrev pub text_on : Bool → Statement → List (ℕ × Bool)
text_on inside s = if is_operator_text s then (s.line, inside) ∷ [] else []

-- those up to the first `ENDFIL`, in order
abbrev pub texts_from : Bool → List Statement → List (ℕ × Bool)
texts_from inside [] = []
texts_from inside (s ∷ statements) = if is_end (keyword_of s.word) then [] else
    text_on inside s ++ texts_from (is_open_after inside (meaning_with (keyword_of s.word) s)) statements

abbrev pub texts_of : List Statement → List (ℕ × Bool)
texts_of statements = texts_from false statements

-- a line is below what is done, of which this is the last line
abbrev pub is_left : Option ℕ → ℕ → Bool
is_left None line = true
is_left (Some last) line = nat_lt last line

-- the line of a command is below this line
abbrev pub is_below : ℕ → Option ℕ → Bool
is_below line None = false
is_below line (Some other) = nat_lt line other

-- more than any plan has
abbrev pub all_commands : ℕ
all_commands = 2 ^ 64 - 1

-- how many of a plan's last commands a text on a line holds back: those on lines below it, and the end of the session; all of them, if nothing
-- that is left to do stands above
abbrev pub held_at : List (Option ℕ) → List TaskLine → ℕ → ℕ
held_at lines left line = if nat_lt 0 (count_by (λ t. nat_lt t.line line) left) then min (count_by (is_below line) lines + 1) all_commands
    else all_commands

-- what a text for the operator is known by
abbrev pub text_seen : OperatorText → ℕ × Bool
text_seen t = (t.line, t.is_inside)

-- a run waits at a text that is in no block, if something is done below it; not at one above all that is left, if the run is confirmed
abbrev pub is_waited : Bool → Bool → ℕ → Bool
is_waited confirmed inside held = not inside && (nat_lt 1 held && not (confirmed && nat_eq held all_commands))

-- no touch that is left stands above a line
abbrev pub is_touch : Task → Bool
is_touch task.Touch = true
is_touch _ = false

abbrev pub is_above_touches : List TaskLine → ℕ → Bool
is_above_touches left line = nat_eq (count_by (λ t. is_touch t.task && nat_lt t.line line) left) 0

-- what is known of a text in a run
abbrev pub place_of : Bool → Bool → List (Option ℕ) → List TaskLine → ℕ × Bool → Held
place_of waits confirmed lines left text = record {
  count = held_at lines left text.0;
  waits = waits && is_waited confirmed text.1 (held_at lines left text.0);
  first = is_above_touches left text.0;
}

-- a text, if it is below what is done, of which this is the last line
abbrev pub place_on : Bool → Bool → Option ℕ → List (Option ℕ) → List TaskLine → ℕ × Bool → List Held
place_on waits confirmed last lines left text = if is_left last text.0 then place_of waits confirmed lines left text ∷ [] else []

abbrev pub places_below : Bool → Bool → Option ℕ → List (Option ℕ) → List TaskLine → List (ℕ × Bool) → List Held
places_below waits confirmed last lines left [] = []
places_below waits confirmed last lines left (text ∷ texts) =
    place_on waits confirmed last lines left text ++ places_below waits confirmed last lines left texts

-- those that are left once that many touches are done
abbrev pub places_of : Bool → Bool → ℕ → List TaskLine → List (ℕ × Bool) → List Held
places_of waits confirmed touches tasks texts = places_below waits confirmed (last_line None (up_to_touch touches tasks))
    (command_lines_of touches tasks) (after_touch touches tasks) texts

-- examples: a text, tasks on the lines 3, 5 and 8, and places at which a run waits or does not
abbrev pub text_on_line : ℕ → List ℕ → Statement
text_on_line line what = unlabelled line (codes "TEXT") (what ∷ (codes "'TURN IT'" ∷ []))

abbrev pub tasks_on : List TaskLine
tasks_on = record { task = task.Move; line = 3 } ∷ (record { task = task.Frame; line = 5 } ∷ (record { task = task.Touch; line = 8 } ∷ []))

abbrev pub waited : ℕ → Held
waited count = record { count = count; waits = true; first = false }

abbrev pub shown : ℕ → Held
shown count = record { count = count; waits = false; first = false }
