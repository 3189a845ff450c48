-- A flat program with its head is read back.
use Rattle.program_lowering.proofs.Names.{◌++◌, ◌<◌, ◌^◌, ◌∙◌, ◌≡◌, ap, AreLines, Choices, ended_lines, head_lines, length, List, Names, Point}
use Rattle.program_lowering.proofs.Names.{program_of, whole_text, ℕ}
use Rattle.program_lowering.specs.Prompts.{Answer}
use Rattle.program_lowering.specs.Lowered.{IsLowered}
use Rattle.program_lowering.proofs.HeadLemmas.{are_comments}
use Rattle.program_lowering.proofs.LawLemmas.{programs_read_back}

pub whole_of : (frames : List (List ℕ × Point)) (names : Names) (choices : Choices) (answers : List Answer) (source text lines notes : List ℕ)
    → AreLines frames choices answers source lines notes → length source < 2 ^ 64
    → text ≡ ended_lines (head_lines names choices answers source) ++ lines
    → IsLowered names choices answers frames source text notes
whole_of frames names choices answers source text lines notes h few e =
    let whole : text ≡ whole_text names choices answers source = e ∙ ap (λ (t : List ℕ). ended_lines (head_lines names choices answers source) ++ t) h.flat in
    record {
      meaning = h.meaning;
      accepted = h.accepted;
      is = whole;
      reads_back = ap (λ (t : List ℕ). program_of frames t) whole
          ∙ programs_read_back frames choices answers source (head_lines names choices answers source) h.meaning few
          (are_comments names choices answers source) h.accepted;
      decided = h.notes_are;
    }

pub ruleset wholes = (whole_of)
