-- A literal is read back.
use Rattle.std.proofs.Common.{◌≡◌, ℕ, Bool, true, false, List, [], ◌∷◌, ◌++◌, length, refl, sym, ap, ◌∙◌, arith, eqb-true, length-append}
use Rattle.std.proofs.Math.Seq.{get_or-append_seam, take-append_seam}
use Rattle.std.specs.Prelude.{◌-◌, ◌==◌, Ok, slice_index, take, if◌then◌else◌}
use Rattle.program_flow.specs.Pieces.{are_doubled, literal, undoubled}
use Rattle.program_flow.specs.Values.{doubled, literal_of}

front-doubled : (c : ℕ) (text : List ℕ) → (c == 39) ≡ false → are_doubled (c ∷ text) ≡ are_doubled text
front-doubled c [] h = rw h refl
front-doubled c (d ∷ text) h = rw h refl

front-undoubled : (c : ℕ) (text : List ℕ) → (c == 39) ≡ false → undoubled (c ∷ text) ≡ c ∷ undoubled text
front-undoubled c [] h = refl
front-undoubled c (d ∷ text) h = rw h refl

all-doubled : (text : List ℕ) → are_doubled (doubled text) ≡ true
all-doubled [] = refl
all-doubled (c ∷ cs) = go (c == 39) refl (all-doubled cs)
  where
    go : (b : Bool) → (c == 39) ≡ b → are_doubled (doubled cs) ≡ true → are_doubled (if b then 39 ∷ (39 ∷ doubled cs) else c ∷ doubled cs) ≡ true
    go true h rest = rest
    go false h rest = front-doubled c (doubled cs) h ∙ rest

back : (text : List ℕ) → undoubled (doubled text) ≡ text
back [] = refl
back (c ∷ cs) = go (c == 39) refl (back cs)
  where
    go : (b : Bool) → (c == 39) ≡ b → undoubled (doubled cs) ≡ cs → undoubled (if b then 39 ∷ (39 ∷ doubled cs) else c ∷ doubled cs) ≡ c ∷ cs
    go true h rest = ap (λ (xs : List ℕ). 39 ∷ xs) rest ∙ ap (λ (n : ℕ). n ∷ cs) (sym (eqb-true c 39 h))
    go false h rest = front-undoubled c (doubled cs) h ∙ ap (λ (xs : List ℕ). c ∷ xs) rest

pub literal-back : (text : List ℕ) → literal (literal_of text) ≡ Ok text
literal-back text =
    let inner : List ℕ = doubled text in
    let count : length (inner ++ 39 ∷ []) - 1 ≡ length inner = omega (arith, length-append inner (39 ∷ [])) in
    let last : slice_index (inner ++ 39 ∷ []) (length (inner ++ 39 ∷ []) - 1) ≡ 39 =
    ap (λ (n : ℕ). slice_index (inner ++ 39 ∷ []) n) count ∙ get_or-append_seam inner 39 [] 0 in
    let front : take (length (inner ++ 39 ∷ []) - 1) (inner ++ 39 ∷ []) ≡ inner =
    ap (λ (n : ℕ). take n (inner ++ 39 ∷ [])) count ∙ take-append_seam inner (39 ∷ []) in
    rw (last, front, all-doubled text, back text) refl
