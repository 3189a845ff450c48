-- What a program does and shows, in order: its steps, and between them the texts for the operator in their places (this profile).
use Rattle.std.specs.Prelude.{ℕ, List, [], ◌∷◌, ◌++◌, map, Result, Ok, Err, if◌then◌else◌}
use Rattle.dmis_text.specs.declared.elements.Statement.{Statement}
use Rattle.fixed_um.specs.declared.lengths.Point.{Point}
use Rattle.dmis_program.specs.LookBack.{context_at, saying}
use Rattle.dmis_program.specs.Meaning.{closes, steps_of}
use Rattle.dmis_program.specs.declared.faults.Refusal.{Refusal}
use Rattle.dmis_program.specs.declared.sayings.StatementMeaning.{StatementMeaning}
use Rattle.dmis_program.specs.declared.steps.Step.{Step}
use Rattle.program_lowering.specs.Texts.{is_operator_text}

-- a step, or the parameters of a text for the operator
pub data Act : Type 0 where
  Does : Step → Act
  Shows : List (List ℕ) → Act

-- the text of a statement, if it is one for the operator
abbrev pub shown_by : Statement → List Act
shown_by s = if is_operator_text s then Shows s.params ∷ [] else []

-- what a statement shows and does, and what follows it: nothing after the end of the program
abbrev pub acts_by : Statement → Result StatementMeaning Refusal → (StatementMeaning → List Step) → List Act → List Act
acts_by s (Err refusal) steps behind = []
acts_by s (Ok meaning) steps behind = if closes meaning then [] else shown_by s ++ (map (λ (t : Step). Does t) (steps meaning) ++ behind)

-- the statements from here on, by those above
abbrev pub acts_from : List (List ℕ × Point) → List Statement → List Statement → List Act
acts_from frames above [] = []
acts_from frames above (s ∷ statements) = acts_by s (saying s) (steps_of frames (context_at frames above)) (acts_from frames (s ∷ above) statements)

abbrev pub acts_of : List (List ℕ × Point) → List Statement → List Act
acts_of frames statements = acts_from frames [] statements
