-- A text has no more lines than bytes.
use Rattle.program_lowering.proofs.Names.{[], ◌+◌, ◌==◌, ◌∷◌, ◌≡◌, ◌≤◌, arith, Bool, cond, eqb, false, length, lines, lines_of_parts, List}
use Rattle.program_lowering.proofs.Names.{onto_first, slice_split, suc, true, ℕ}
use Rattle.std.proofs.lemmas.List.Splits.{length-slice_split}
use Rattle.dmis_text.proofs.LineEnds.{lines_of_more}

at_most_one : (b : Bool) (x : List ℕ) → length (cond b [] (x ∷ [])) ≤ 1
at_most_one true x = omega arith
at_most_one false x = omega arith

-- a byte more in the first part
one_byte_more : (c : ℕ) (parts : List (List ℕ)) (k n : ℕ) → length parts ≡ k + 1 → length (lines_of_parts parts) ≤ n
    → length (lines_of_parts (onto_first c parts)) ≤ suc n
one_byte_more c [] k n e h = absurd (omega (arith, e))
one_byte_more c (x ∷ []) k n e h = omega (arith, at_most_one (length (c ∷ x) == 0) (c ∷ x))
one_byte_more c (x ∷ y ∷ more) k n e h = omega (arith, h)

pub lines_few : (bytes : List ℕ) → length (lines bytes) ≤ length bytes
lines_few [] = omega arith
lines_few (c ∷ cs) = go (eqb c 10) (lines_few cs)
  where
    go : (b : Bool) → length (lines cs) ≤ length cs
        → length (lines_of_parts (cond b ([] ∷ slice_split (λ d. eqb d 10) cs) (onto_first c (slice_split (λ d. eqb d 10) cs)))) ≤ suc (length cs)
    go true h = rw (lines_of_more [] (slice_split (λ d. eqb d 10) cs) _ (length-slice_split (λ d. eqb d 10) cs)) (omega (arith, h))
    go false h = one_byte_more c (slice_split (λ d. eqb d 10) cs) _ (length cs) (length-slice_split (λ d. eqb d 10) cs) h
