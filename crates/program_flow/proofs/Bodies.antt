-- The statements of a macro are the first of those below its MACRO.
use Rattle.std.proofs.Common.{◌≡◌, Bool, true, false, List, [], ◌∷◌, cond, length, refl, ap, take}
use Rattle.dmis_text.specs.declared.elements.Statement.{Statement}
use Rattle.program_flow.specs.Macros.{body_of, ends_macro}

pub body_is_front : (below : List Statement) → take (length (body_of below)) below ≡ body_of below
body_is_front [] = refl
body_is_front (s ∷ below) = go (ends_macro s) (body_is_front below)
  where
    go : (b : Bool) → take (length (body_of below)) below ≡ body_of below → take (length (cond b [] (s ∷ body_of below))) (s ∷ below) ≡ cond b [] (s ∷ body_of below)
    go true h = refl
    go false h = ap (λ (ss : List Statement). s ∷ ss) h
