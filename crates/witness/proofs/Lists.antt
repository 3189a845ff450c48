-- The lines above a line, the nearest first.
use Rattle.witness.proofs.JudgementNames.{[], ◌+◌, ◌<◌, ◌∙◌, ◌∷◌, ◌≡◌, ap, arith, drop, drop_more, first_break, Found, found_at, get_or, length}
use Rattle.witness.proofs.JudgementNames.{length-reverse, length-take-le, List, None, Option, option_or, refl, reverse, reverse-append, Rule, Some, sym}
use Rattle.witness.proofs.JudgementNames.{take, take_more, ℕ}

-- one line more is above
pub above_more : {X : Type 0} (xs : List X) (at : ℕ) (d : X) → at < length xs
    → reverse (take (at + 1) xs) ≡ get_or xs at d ∷ reverse (take at xs)
above_more xs at d short = ap reverse (take_more xs at d short) ∙ reverse-append (take at xs) (get_or xs at d ∷ [])

pub above_count : {X : Type 0} (xs : List X) → length (reverse xs) ≡ length xs
above_count xs = length-reverse xs

-- what is found in the lines from one on
pub first_more : {X : Type 0} (rule : List X → X → Option Rule) (xs : List X) (at : ℕ) (d : X) → at < length xs
    → first_break rule (reverse (take at xs)) (drop at xs)
    ≡ found_at (at + 1) (rule (reverse (take at xs)) (get_or xs at d)) (first_break rule (reverse (take (at + 1) xs)) (drop (at + 1) xs))
first_more {X = X} rule xs at d short =
    ap (first_break rule (reverse (take at xs))) (drop_more xs at d short)
    ∙ ap (λ (n : ℕ). found_at (n + 1) (rule (reverse (take at xs)) (get_or xs at d))
    (first_break rule (get_or xs at d ∷ reverse (take at xs)) (drop (at + 1) xs)))
    (length-reverse (take at xs) ∙ length-take-le at xs (omega (arith, short)))
    ∙ ap (λ (above : List X). found_at (at + 1) (rule (reverse (take at xs)) (get_or xs at d)) (first_break rule above (drop (at + 1) xs)))
    (sym (above_more xs at d short))

-- with what was found before
pub found_more : (f : Option Found) (n : ℕ) (o : Option Rule) (more : Option Found)
    → option_or (option_or f (found_at n o None)) more ≡ option_or f (found_at n o more)
found_more None n None more = refl
found_more None n (Some r) more = refl
found_more (Some f) n o more = refl
