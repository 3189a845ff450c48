-- What a program means: its steps in order, and the features that they measure (ISO 22093, measurement blocks).
use Rattle.std.specs.Prelude.{ℕ, Bool, true, false, List, [], ◌∷◌, ◌++◌, length, Option, Some, None, Result, Ok, Err, ◌==◌, if◌then◌else◌}
use Rattle.std.specs.Str.Lines.{lines}
use Rattle.dmis_text.specs.Reading.{Reading, text_reading}
use Rattle.dmis_text.specs.declared.elements.Statement.{Statement}
use Rattle.dmis_text.specs.declared.reading.TextFault.{TextFault}
use Rattle.dmis_text.specs.declared.reading.TextFault.TheVariants as fault
use Rattle.fixed_um.specs.declared.lengths.Point.{Point}
use Rattle.fixed_um.specs.declared.frames.Frame.{Frame}
use Rattle.fixed_um.specs.Shapes.{Direction}
use Rattle.dmis_program.specs.Offsets.{offset_of}
use Rattle.dmis_program.specs.LookBack.{Context, context_at}
use Rattle.dmis_program.specs.Judging.{judged}
use Rattle.dmis_program.specs.declared.faults.Refusal.{Refusal}
use Rattle.dmis_program.specs.declared.faults.Refusal.TheVariants.{NotDmis, Truncated, LineTooLong, BadByte}
use Rattle.dmis_program.specs.declared.sayings.StatementMeaning.{StatementMeaning}
use Rattle.dmis_program.specs.declared.sayings.StatementMeaning.TheVariants as said
use Rattle.dmis_program.specs.declared.steps.Step.{Step}
use Rattle.dmis_program.specs.declared.steps.Step.TheVariants.{Goto, Begin, Touch, Tool, Recall, End}
use Rattle.dmis_program.specs.declared.features.Touch as touch
use Rattle.dmis_program.specs.declared.features.Wanted.{Wanted}

-- the touch that is wanted where this tool and this frame are selected
abbrev pub touch_with : List ℕ → Frame → Point → Option Direction → touch.Touch
touch_with tool frame target direction = record { target = target; dir = direction; tool = tool; frame = frame }

abbrev pub touch_steps : Option (List ℕ) → Frame → Point → Option Direction → List Step
touch_steps None frame target direction = []
touch_steps (Some tool) frame target direction = Touch (touch_with tool frame target direction) ∷ []

abbrev pub recall_steps : Option Point → List Step
recall_steps None = []
recall_steps (Some offset) = Recall offset ∷ []

-- the step that a statement commands, or none, by what is selected above it
abbrev pub steps_of : List (List ℕ × Point) → Context → StatementMeaning → List Step
steps_of frames c (said.Goes target) = Goto target ∷ []
steps_of frames c (said.Begins name count) = Begin name ∷ []
steps_of frames c (said.Touches target direction) = touch_steps c.tool c.frame target direction
steps_of frames c said.Ends = End ∷ []
steps_of frames c (said.Selects name) = Tool name ∷ []
steps_of frames c (said.Recalls name) = recall_steps (offset_of frames name)
steps_of frames c said.Closes = []
steps_of frames c said.Passes = []

-- `ENDFIL`
abbrev pub closes : StatementMeaning → Bool
closes said.Closes = true
closes _ = false

-- the refusal where the text ends without an `ENDFIL`, or where a line cannot be read. Running out of memory is no refusal of a text
abbrev pub without_end : ℕ → ℕ → Refusal × ℕ
without_end number lines = if number == 0 then (NotDmis, 1) else (Truncated, lines)

abbrev pub ended : Option TextFault → ℕ → ℕ → Refusal × ℕ
ended None number lines = without_end number lines
ended (Some (fault.LineTooLong n)) number lines = (LineTooLong, n)
ended (Some (fault.BadByte n)) number lines = (BadByte, n)
ended (Some fault.Memory) number lines = without_end number lines

abbrev pub with_front : List Step → Result (List Step) (Refusal × ℕ) → Result (List Step) (Refusal × ℕ)
with_front front (Ok steps) = Ok (front ++ steps)
with_front front (Err e) = Err e

-- a statement's part, and what the statements after it give: nothing is read after `ENDFIL`
abbrev pub continued : ℕ → Result StatementMeaning Refusal → (StatementMeaning → List Step) → Result (List Step) (Refusal × ℕ)
    → Result (List Step) (Refusal × ℕ)
continued line (Err refusal) steps behind = Err (refusal, line)
continued line (Ok said) steps behind = if closes said then Ok [] else with_front (steps said) behind

-- the steps of the statements from here on, or the first refusal with its line, by those above
abbrev pub steps_from : List (List ℕ × Point) → Option TextFault → ℕ → List Statement → List Statement → Result (List Step) (Refusal × ℕ)
steps_from frames fault lines above [] = Err (ended fault (length above) lines)
steps_from frames fault lines above (s ∷ statements) = continued s.line (judged frames (context_at frames above) s)
    (steps_of frames (context_at frames above)) (steps_from frames fault lines (s ∷ above) statements)

-- the touches up to the end of the block
abbrev pub touches_with : Step → List touch.Touch → List touch.Touch
touches_with (Touch t) behind = t ∷ behind
touches_with End behind = []
touches_with _ behind = behind

abbrev pub block_touches : List Step → List touch.Touch
block_touches [] = []
block_touches (step ∷ steps) = touches_with step (block_touches steps)

-- one feature for each block: its label, and the touches up to its end
abbrev pub features_with : Step → List touch.Touch → List Wanted → List Wanted
features_with (Begin name) touches behind = record { label = name; touches = touches } ∷ behind
features_with _ touches behind = behind

abbrev pub features_of : List Step → List Wanted
features_of [] = []
features_of (step ∷ steps) = features_with step (block_touches steps) (features_of steps)

-- a program as its callers see it
pub record Meaning : Type 0 where
  pub features : List Wanted
  pub steps : List Step

abbrev pub meaning_with : List Step → Meaning
meaning_with steps = record { features = features_of steps; steps = steps }

abbrev pub meant : Result (List Step) (Refusal × ℕ) → Result Meaning (Refusal × ℕ)
meant (Ok steps) = Ok (meaning_with steps)
meant (Err e) = Err e

-- the meaning of the statements of a text with that many lines, or its first refusal with its line
unfoldable pub meaning_of : List (List ℕ × Point) → Reading → ℕ → Result Meaning (Refusal × ℕ)
meaning_of frames reading lines = meant (steps_from frames reading.fault lines [] reading.statements)

-- likewise for a whole text
abbrev pub program_of : List (List ℕ × Point) → List ℕ → Result Meaning (Refusal × ℕ)
program_of frames text = meaning_of frames (text_reading text) (length (lines text))
