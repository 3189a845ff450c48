-- What the writers of acts add, one piece after another.
use Rattle.contact_ledger.proofs.Names.{[], ◌++◌, ◌+◌, ◌<◌, ◌∙◌, ◌∷◌, ◌≡◌, Act, act_fields, act_line, ap, append-nil, append_assoc, arith, codes}
use Rattle.contact_ledger.proofs.Names.{decimal, drop, get_or, length, List, map, refl, spaced, suc, sym, take, text_of, zero, ℕ}
use Rattle.contact_ledger.proofs.WrittenTexts.{line_spaced, spaced_more, text_more}

pub ruleset pieces = (append_assoc, spaced_more)

-- the line of an act: its number, its fields, its end
pub entry_written : (old a b new : List ℕ) (n : ℕ) (act : Act) → a ≡ old ++ decimal n → b ≡ a ++ spaced (act_fields act)
    → new ≡ b ++ 10 ∷ []
    → new ≡ old ++ text_of (act_line (n, act) ∷ [])
entry_written old a b new n act p q r =
    let all : new ≡ ((old ++ decimal n) ++ spaced (act_fields act)) ++ 10 ∷ [] = rw (r, q, p) refl in
    all ∙ append_assoc (old ++ decimal n) (spaced (act_fields act)) (10 ∷ [])
    ∙ append_assoc old (decimal n) (spaced (act_fields act) ++ 10 ∷ [])
    ∙ ap (λ (t : List ℕ). old ++ t) (sym (append_assoc (decimal n) (spaced (act_fields act)) (10 ∷ [])))
    ∙ ap (λ (t : List ℕ). old ++ (t ++ 10 ∷ [])) (sym (line_spaced (decimal n) (act_fields act)))
