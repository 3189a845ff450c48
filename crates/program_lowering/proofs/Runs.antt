-- What only proofs speak of.
use Rattle.program_lowering.proofs.Names.{[], ◌∷◌, Bool, Carried, Choices, Err, false, List, Ok, Option, Point, Refusal, Result, Statement, Step}
use Rattle.program_lowering.proofs.Names.{step, steps_from, TextFault, true, up_to_refused, ℕ}
use Rattle.dmis_program.specs.Meaning.{ended}
use Rattle.program_lowering.specs.Carried.{frames_closed}

-- the text and the notes, or the refusal with its line
pub record Written : Type 0 where
  pub text : List ℕ
  pub notes : List ℕ
  pub frames : List ℕ

-- from here to the end of the program
abbrev pub ran : ℕ → Result (Bool × Carried) Refusal → (Carried → Result Written (Refusal × ℕ)) → Result Written (Refusal × ℕ)
ran line (Err refusal) behind = Err (refusal, line)
ran line (Ok (true, c)) behind = Ok (record { text = c.text; notes = c.notes; frames = frames_closed c.frames c.since })
ran line (Ok (false, c)) behind = behind c

abbrev pub run : List (List ℕ × Point) → Choices → Option TextFault → ℕ → List Statement → Carried → Result Written (Refusal × ℕ)
run frames choices fault lines [] c = Err (ended fault c.above.number lines)
run frames choices fault lines (s ∷ statements) c = ran s.line (step frames choices c s) (run frames choices fault lines statements)

-- the steps of statements up to a text for the operator that one line cannot hold
abbrev pub steps_up_to : List (List ℕ × Point) → Option TextFault → ℕ → List Statement → List Statement → Result (List Step) (Refusal × ℕ)
steps_up_to frames fault lines aboves below = steps_from frames (up_to_refused fault below).fault lines aboves (up_to_refused fault below).statements
