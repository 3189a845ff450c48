-- A statement without the words of control flow comes out as it is.
use Rattle.std.proofs.Common.{◌≡◌, ℕ, zero, suc, ◌+◌, List, [], ◌∷◌, arith, drop, ap, ◌∙◌, refl}
use Rattle.dmis_text.specs.declared.elements.Statement.{Statement}
use Rattle.program_flow.specs.Blocks.{part_of}
use Rattle.program_flow.specs.Flow.{to, turn}
use Rattle.program_flow.specs.Values.{Valuation}
use Rattle.program_flow.specs.Flow.Turn.{Gives}
use Rattle.program_flow.specs.declared.blocks.Block.{Block}
use Rattle.program_flow.specs.declared.blocks.Part.TheVariants.{Other}

pub drop-next : (place : ℕ) (all : List Statement) (s : Statement) (below : List Statement) → drop place all ≡ s ∷ below → drop (place + 1) all ≡ below
drop-next zero [] s below e = absurd cc
drop-next zero (x ∷ xs) s below e = cc
drop-next (suc place) [] s below e = absurd cc
drop-next (suc place) (x ∷ xs) s below e =
    let next : suc place + 1 ≡ suc (place + 1) = omega arith in
    ap (λ (n : ℕ). drop n (x ∷ xs)) next ∙ drop-next place xs s below e

pub turn-other : (all : List Statement) (values : Valuation) (place : ℕ) (blocks : List Block) (s : Statement) (below : List Statement)
    → drop place all ≡ s ∷ below → part_of s ≡ Other → turn all values (to place blocks) ≡ Gives s (to (place + 1) blocks)
unfolding turn
turn-other all values place blocks s below d o = rw (d, o) refl
