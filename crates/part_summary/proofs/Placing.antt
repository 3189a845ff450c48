-- A part is put in at its place.
use Rattle.std.proofs.Common.{◌≡◌, ◌∙◌, ◌+◌, [], ◌∷◌, ℕ, Bool, true, false, cond, List, Option, ap, ap₂, arith, refl, suc}
use Rattle.std.specs.List.{insert}
use Rattle.part_summary.specs.Times.{Plot, is_after, place_for, placed}

next : (place : ℕ) → 1 + place ≡ suc place
next place = omega arith

later : (p q : Plot) (parts : List Plot) (place : ℕ) → insert (q ∷ parts) (suc place) p ≡ q ∷ insert parts place p
later p q parts place = refl

put_in : (p : Plot) (parts : List Plot) → insert parts (place_for p.time parts) p ≡ placed p parts
put_in p [] = refl
put_in p (q ∷ parts) = go (is_after q.time p.time) (put_in p parts)
  where
    go : (b : Bool) → insert parts (place_for p.time parts) p ≡ placed p parts
        → insert (q ∷ parts) (cond b 0 (1 + place_for p.time parts)) p ≡ cond b (p ∷ q ∷ parts) (q ∷ placed p parts)
    go true same = refl
    go false same = ap (λ (place : ℕ). insert (q ∷ parts) place p) (next (place_for p.time parts))
        ∙ (later p q parts (place_for p.time parts) ∙ ap (λ (ps : List Plot). q ∷ ps) same)

pub put_in_at : (p : Plot) (parts : List Plot) (time : Option (List ℕ)) (seen : List Plot) (place : ℕ)
    → time ≡ p.time → seen ≡ parts → place ≡ place_for time seen → insert parts place p ≡ placed p parts
put_in_at p parts time seen place same all is =
    ap (λ (n : ℕ). insert parts n p) (is ∙ ap₂ place_for same all) ∙ put_in p parts
