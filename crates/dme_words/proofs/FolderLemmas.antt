-- Different parts have different files in a folder.
use Rattle.std.proofs.Common.{true≢false, ◌&&◌, ◌≡◌, ℕ, ◌/◌, ◌%◌, ◌<◌, Bool, true, false, List, [], ◌∷◌, ◌++◌, arith, refl, sym, ap, ap₂, ◌∙◌, codes, if◌then◌else◌}
use Rattle.std.specs.List.{flat_map, list_all}
use Rattle.std.specs.Fmt.{digit_glyph}
use Rattle.std.proofs.lemmas.Bool.Decides.{nat_tests}
use Rattle.std.proofs.lemmas.List.{append_cancel_left, append_cancel_right}
use Rattle.percent_encoding.specs.Percent.{percent_encode_byte}
use Rattle.record_text.specs.Heads.{IsPart, is_printed}
use Rattle.dme_words.specs.Folders.{file_byte, is_kept, record_in}

-- a digit stands for one number
one_digit : (a b : ℕ) → a < 16 → b < 16 → digit_glyph true a ≡ digit_glyph true b → a ≡ b
one_digit a b p q e = grind (arith, nat_tests)

-- two digits stand for one byte
one_byte : (a b : ℕ) → a < 256 → b < 256 → digit_glyph true (a / 16 % 16) ≡ digit_glyph true (b / 16 % 16)
    → digit_glyph true (a % 16) ≡ digit_glyph true (b % 16) → a ≡ b
one_byte a b p q high low =
    let h = one_digit (a / 16 % 16) (b / 16 % 16) (omega arith) (omega arith) high in
    let l = one_digit (a % 16) (b % 16) (omega arith) (omega arith) low in
    omega arith

-- what stands for a byte shows which it is, whatever follows
byte_shown : (b c : ℕ) (s t : List ℕ) → b < 256 → c < 256 → file_byte b ++ s ≡ file_byte c ++ t → (b ≡ c) × (s ≡ t)
unfolding percent_encode_byte
byte_shown b c s t p q e = go (is_kept b) (is_kept c) refl refl e
  where
    shown : Bool → ℕ → List ℕ
    shown x b = if x then b ∷ [] else percent_encode_byte b

    go : (x y : Bool) → is_kept b ≡ x → is_kept c ≡ y → shown x b ++ s ≡ shown y c ++ t → (b ≡ c) × (s ≡ t)
    go true true k l e = (cc, cc)
    go true false k l e = let same : b ≡ 37 = cc in absurd (true≢false (sym k ∙ ap is_kept same))
    go false true k l e = let same : c ≡ 37 = cc in absurd (true≢false (sym l ∙ ap is_kept same))
    go false false k l e =
        let high : digit_glyph true (b / 16 % 16) ≡ digit_glyph true (c / 16 % 16) = cc in
        let low : digit_glyph true (b % 16) ≡ digit_glyph true (c % 16) = cc in
        (one_byte b c p q high low, cc)

nothing_shown : (c : ℕ) (t : List ℕ) → [] ≡ file_byte c ++ t → ⊥
unfolding percent_encode_byte
nothing_shown c t e = go (is_kept c) e
  where
    go : (x : Bool) → [] ≡ (if x then c ∷ [] else percent_encode_byte c) ++ t → ⊥
    go true e = absurd cc
    go false e = absurd cc

is_byte : (b : ℕ) (rest : Bool) → (is_printed b && rest) ≡ true → b < 256
is_byte b rest e = grind (arith, nat_tests)

are_more : (x rest : Bool) → (x && rest) ≡ true → rest ≡ true
are_more true rest e = e
are_more false rest e = absurd (true≢false (sym e))

names_shown : (p q : List ℕ) → list_all is_printed p ≡ true → list_all is_printed q ≡ true → flat_map file_byte p ≡ flat_map file_byte q → p ≡ q
names_shown [] [] a b e = refl
names_shown [] (c ∷ q) a b e = absurd (nothing_shown c (flat_map file_byte q) e)
names_shown (b ∷ p) [] a d e = absurd (nothing_shown b (flat_map file_byte p) (sym e))
names_shown (b ∷ p) (c ∷ q) x y e =
    let both = byte_shown b c (flat_map file_byte p) (flat_map file_byte q) (is_byte b _ x) (is_byte c _ y) e in
    ap₂ (λ h t. h ∷ t) both.0 (names_shown p q (are_more _ _ x) (are_more _ _ y) both.1)

-- different parts have different files
pub files_differ : (folder p q : List ℕ) → IsPart p → IsPart q → record_in folder p ≡ record_in folder q → p ≡ q
files_differ folder p q a b e =
    let named = append_cancel_left folder _ _ e in
    let ended : flat_map file_byte p ++ codes ".record" ≡ flat_map file_byte q ++ codes ".record" = append_cancel_left (codes "/") _ _ named in
    names_shown p q a.printed b.printed (append_cancel_right _ _ (codes ".record") ended)
