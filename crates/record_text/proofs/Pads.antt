-- A key that is padded.
use Rattle.std.proofs.Common.{◌∙◌, sym, ap, refl, ◌≡◌, ℕ, List, [], ◌∷◌, ◌++◌, append-nil, length, map, drop, replicate, bit_xor}
use Rattle.record_text.specs.Macs.{padded}

drop_own : (key : List ℕ) → drop (length key) key ≡ []
drop_own [] = refl
drop_own (b ∷ key) = drop_own key

-- once no byte of the key is left, what is there is the key with the byte; and the rest follows
pub is_padded : (byte at : ℕ) (key pad rest whole out : List ℕ) → pad ++ map (λ b. bit_xor b byte) (drop at key) ≡ map (λ b. bit_xor b byte) key
    → at ≡ length key → out ≡ pad ++ rest → rest ≡ drop (length key) whole → whole ≡ replicate 64 byte → out ≡ padded byte key
is_padded byte at key pad rest whole out all ended joined behind filled =
    let whole_key : pad ≡ map (λ b. bit_xor b byte) key =
    sym (append-nil pad) ∙ ap (λ (k : List ℕ). pad ++ map (λ b. bit_xor b byte) k) (sym (ap (λ (n : ℕ). drop n key) ended ∙ drop_own key)) ∙ all in
    joined ∙ ap (λ (p : List ℕ). p ++ rest) whole_key ∙ ap (λ (r : List ℕ). map (λ b. bit_xor b byte) key ++ r)
    (behind ∙ ap (λ (w : List ℕ). drop (length key) w) filled)
