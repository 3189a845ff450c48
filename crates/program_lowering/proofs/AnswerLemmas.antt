-- Statements that are answered.
use Rattle.program_lowering.proofs.Names.{[], ◌∷◌, ◌≡◌, ◌<◌, ◌^◌, AllByRecursion, List, map, None, Option, refl, Some, Statement, subst, sym}
use Rattle.program_lowering.proofs.Names.{text_reading, TextFault, ℕ}
use Rattle.program_flow.specs.Macros.{only_statement, said_by}
use Rattle.program_lowering.proofs.ReadBackLemmas.{HasShortLine}
use Rattle.program_lowering.specs.Prompts.{Answer, answer_to, answered, asked, assigning, replaced, with_answer}

-- each stays on its line
replaced_line : (s : Statement) (text : List ℕ) → (replaced s (said_by s.line text)).line ≡ s.line
unfolding said_by
replaced_line s text = go (text_reading text).statements (text_reading text).fault
  where
    go : (ss : List Statement) (fault : Option TextFault) → (replaced s (only_statement s.line ss fault)).line ≡ s.line
    go [] None = refl
    go [] (Some fault) = refl
    go (t ∷ []) None = refl
    go (t ∷ []) (Some fault) = refl
    go (t ∷ (u ∷ more)) None = refl
    go (t ∷ (u ∷ more)) (Some fault) = refl

answered_line : (answers : List Answer) (s : Statement) → (answered answers s).line ≡ s.line
answered_line answers s = go (answer_to answers (asked s))
  where
    go : (text : Option (List ℕ)) → (with_answer s text).line ≡ s.line
    go None = refl
    go (Some text) = replaced_line s (assigning text)

pub answered_short : (answers : List Answer) (statements : List Statement) → AllByRecursion HasShortLine statements
    → AllByRecursion HasShortLine (map (answered answers) statements)
answered_short answers [] h = tt
answered_short answers (s ∷ statements) h =
    (subst (λ (n : ℕ). n < 2 ^ 64) (sym (answered_line answers s)) h.0, answered_short answers statements h.1)

-- what is not answered stays
pub unasked_stays : (answers : List Answer) (s : Statement) → asked s ≡ None → answered answers s ≡ s
unasked_stays answers s h = rw h refl

unanswered : (s : Statement) → answered [] s ≡ s
unanswered s = go (asked s)
  where
    go : (name : Option (List ℕ)) → with_answer s (answer_to [] name) ≡ s
    go None = refl
    go (Some name) = refl

pub none_answered : (statements : List Statement) → map (answered []) statements ≡ statements
none_answered [] = refl
none_answered (s ∷ statements) = rw (unanswered s, none_answered statements) refl
