-- A statement that comes out, in its place of the text.
use Rattle.program_lowering.proofs.Names.{◌∷◌, ◌≡◌, [], drop, List, Statement, suc, zero, ℕ}
use Rattle.std.specs.Prelude.{get_or}

pub item_at : (place : ℕ) (ss : List Statement) (s item : Statement) (below : List Statement) → drop place ss ≡ s ∷ below
    → item ≡ get_or ss place item → item ≡ s
item_at zero [] s item below e is = absurd cc
item_at zero (x ∷ xs) s item below e is = cc
item_at (suc place) [] s item below e is = absurd cc
item_at (suc place) (x ∷ xs) s item below e is = item_at place xs s item below e is
