-- Statements that are read one after the other: what the laws on refusals speak of.
use Rattle.std.specs.Prelude.{◌≡◌, ℕ, false, List, [], ◌∷◌, ◌++◌, Result, Ok, Err}
use Rattle.dmis_text.specs.declared.elements.Statement.{Statement}
use Rattle.fixed_um.specs.declared.lengths.Point.{Point}
use Rattle.dmis_program.specs.LookBack.{context_at}
use Rattle.dmis_program.specs.Judging.{judged}
use Rattle.dmis_program.specs.Meaning.{steps_of, closes}
use Rattle.dmis_program.specs.declared.faults.Refusal.{Refusal}
use Rattle.dmis_program.specs.declared.sayings.StatementMeaning.{StatementMeaning}
use Rattle.dmis_program.specs.declared.steps.Step.{Step}

-- no refusal is due at any of the statements, and none is the end of the program; those above the first are given nearest first
abbrev pub AreRead : List (List ℕ × Point) → List Statement → List Statement → Type 0
AreRead frames above [] = Unit {0}
AreRead frames above (s ∷ statements) = ((said : StatementMeaning) × (judged frames (context_at frames above) s ≡ Ok said)
    × (closes said ≡ false))
    × AreRead frames (s ∷ above) statements

-- what is above the statement after them, nearest first
abbrev pub above_behind : List Statement → List Statement → List Statement
above_behind above [] = above
above_behind above (s ∷ statements) = above_behind (s ∷ above) statements

-- the steps of a statement that is read
abbrev pub steps_said : (StatementMeaning → List Step) → Result StatementMeaning Refusal → List Step
steps_said steps (Ok said) = steps said
steps_said steps (Err refusal) = []

-- the steps of each statement in order, by the statements above it
abbrev pub steps_along : List (List ℕ × Point) → List Statement → List Statement → List Step
steps_along frames above [] = []
steps_along frames above (s ∷ statements) = steps_said (steps_of frames (context_at frames above))
    (judged frames (context_at frames above) s) ++ steps_along frames (s ∷ above) statements
