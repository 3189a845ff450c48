-- What lowering a text gives (this profile).
use Rattle.std.specs.Prelude.{◌≡◌, ℕ, List, Result, Ok, Err}
use Rattle.fixed_um.specs.declared.lengths.Point.{Point}
use Rattle.dmis_program.specs.Meaning.{Meaning, program_of}
use Rattle.dmis_program.specs.declared.faults.ProgramFault.{ProgramFault}
use Rattle.dmis_program.specs.declared.faults.ProgramFault.TheVariants as program
use Rattle.program_lowering.specs.Prompts.{Answer}
use Rattle.program_lowering.specs.Heads.{Names, whole_text}
use Rattle.program_lowering.specs.Lowering.{lowered_meaning, notes_of}
use Rattle.program_lowering.specs.declared.lowering.Lowered.{Lowered}
use Rattle.program_lowering.specs.declared.words.Choices.{Choices}

-- the flat program of a text with its head, and what was decided: the text is accepted without what is left out, and the flat program is
-- accepted as it is written, with the same features and steps
pub record IsLowered (names : Names) (choices : Choices) (answers : List Answer) (frames : List (List ℕ × Point)) (source text notes : List ℕ) : Type 0 where
  pub meaning : Meaning
  pub accepted : lowered_meaning frames choices answers source ≡ Ok meaning
  pub is : text ≡ whole_text names choices answers source
  pub reads_back : program_of frames text ≡ Ok meaning
  pub decided : notes ≡ notes_of choices answers source

-- the first refusal with its line, unless memory ran out
abbrev pub Refuses : List (List ℕ × Point) → Choices → List Answer → List ℕ → ProgramFault → Type 0
Refuses frames choices answers source (program.Refused refusal line) = lowered_meaning frames choices answers source ≡ Err (refusal, line)
Refuses frames choices answers source program.Memory = Unit {0}

abbrev pub GivesLowered : Names → Choices → List Answer → List (List ℕ × Point) → List ℕ → Result Lowered ProgramFault → Type 0
GivesLowered names choices answers frames source (Ok lowered) = IsLowered names choices answers frames source lowered.text.items lowered.notes.items
GivesLowered names choices answers frames source (Err fault) = Refuses frames choices answers source fault
