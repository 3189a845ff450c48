-- After any lines, a witness keeps and reports what the rules say.
use Rattle.witness.proofs.Names.{[], ◌∙◌, ◌∷◌, ◌≡◌, after, after_all, all_reported, Answers, ap, Bool, Line, List, refl, Sends, witnessed}
use Rattle.witness.proofs.AnswerSteps.{answers_more}
use Rattle.witness.proofs.SendSteps.{sends_more}

pub exact : (o : Bool) (h : List Line) → after_all o h ≡ witnessed o h
exact o [] = refl
exact o (Sends line what ∷ h) = ap (λ d. after d (Sends line what)) (exact o h) ∙ sends_more o h line what
exact o (Answers line what ∷ h) = ap (λ d. after d (Answers line what)) (exact o h) ∙ answers_more o h line what

pub reports_exactly : (o : Bool) (h : List Line) → (after_all o h).reported ≡ all_reported o h
reports_exactly o h = ap (λ d. d.reported) (exact o h)
