-- Texts of the bytes that a flat statement is made of.
use Rattle.program_lowering.proofs.Names.{[], ◌&&◌, ◌==◌, ◌∷◌, ◌≡◌, ◌≤◌, Bool, Flat, if◌then◌else◌, length, List, list_all, may_stand, nat_le, not}
use Rattle.program_lowering.proofs.Names.{true, turned, ℕ}
-- each byte is one that no mark is
pub use Rattle.program_lowering.specs.OperatorTexts.{is_solid}

abbrev pub solid : List ℕ → Bool
solid = list_all is_solid

-- outside texts a byte from 33 to 126 that begins no comment; each text is closed
abbrev pub is_bare : ℕ → Bool
is_bare c = (nat_le 33 c && nat_le c 126) && not (c == 36)

abbrev pub stands : Bool → List ℕ → Bool
stands inside [] = not inside
stands inside (c ∷ cs) = (if inside then may_stand true c else is_bare c) && stands (turned inside c) cs

-- a word and parameters of such bytes, of that many at most
pub record IsSolid (f : Flat) (most : ℕ) : Type 0 where
  pub word : solid f.word ≡ true
  pub some_word : 1 ≤ length f.word
  pub params : list_all solid f.params ≡ true
  pub short : list_all (λ (p : List ℕ). nat_le (length p) most) f.params ≡ true
  pub word_short : length f.word ≤ most
  pub few : length f.params ≤ 8
