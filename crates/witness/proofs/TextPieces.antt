-- What the writers of texts add, one piece after another.
use Rattle.witness.proofs.Names.{[], ◌++◌, ◌∙◌, ◌∷◌, ◌≡◌, ap, append_assoc, decimal, line_spaced, List, refl, Reported, spaced, spaced_more, sym}
use Rattle.witness.proofs.Names.{text_of, told_fields, told_line, ℕ}

pub ruleset pieces = (append_assoc, spaced_more)

-- the line of what was reported: its number, its fields, its end
pub told_written : (old a b new : List ℕ) (n : ℕ) (told : Reported) → a ≡ old ++ decimal n → b ≡ a ++ spaced (told_fields told)
    → new ≡ b ++ 10 ∷ []
    → new ≡ old ++ text_of (told_line (n, told) ∷ [])
told_written old a b new n told p q r =
    let all : new ≡ ((old ++ decimal n) ++ spaced (told_fields told)) ++ 10 ∷ [] = rw (r, q, p) refl in
    all ∙ append_assoc (old ++ decimal n) (spaced (told_fields told)) (10 ∷ [])
    ∙ append_assoc old (decimal n) (spaced (told_fields told) ++ 10 ∷ [])
    ∙ ap (λ (t : List ℕ). old ++ t) (sym (append_assoc (decimal n) (spaced (told_fields told)) (10 ∷ [])))
    ∙ ap (λ (t : List ℕ). old ++ (t ++ 10 ∷ [])) (sym (line_spaced (decimal n) (told_fields told)))
