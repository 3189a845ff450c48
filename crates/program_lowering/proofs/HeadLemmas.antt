-- The head of a flat program is comments.
use Rattle.program_lowering.proofs.Names.{[], ◌%◌, ◌++◌, ◌/◌, ◌<◌, ◌^◌, ◌∷◌, ◌≡◌, ◌≤◌, AllByRecursion, and_from, and_parts, arith, Bool, Choices}
use Rattle.program_lowering.proofs.Names.{codes, cond, encode_lower, false, head_lines, IsComment, length, length-append, List, list_all}
use Rattle.program_lowering.proofs.Names.{list_all-append, list_all_at, lower_digits, ltb-true, map, may_stand, Names, nat_lt, nat_tests}
use Rattle.program_lowering.proofs.Names.{options_text, refl, setup_name, shown_byte, shown_name, slice_index, suc, sym, take, true, zero, ℕ}
use Rattle.program_lowering.specs.Prompts.{Answer}
use Rattle.program_lowering.specs.Heads.{option_text, or_none, value_line}
use Rattle.std.specs.Int.{byte_at, bytes_high_first, to_be_bytes, w32}
use Rattle.sha2.specs.Sha256.{digest_bytes, sha256}
use Rattle.sha2.proofs.Facts256.{length-sha256}
use Rattle.hex.specs.Hex.{encode_with}
use Rattle.hex.proofs.HexLemmas.{length-encode_with}

abbrev clean : List ℕ → Bool
clean = list_all (may_stand true)

shown_clean : (c : ℕ) → may_stand true (shown_byte c) ≡ true
shown_clean c = go (may_stand true c) refl
  where
    go : (b : Bool) → may_stand true c ≡ b → may_stand true (cond b c 63) ≡ true
    go true e = e
    go false e = refl

name_clean : (n : ℕ) (name : List ℕ) → clean (map shown_byte (take n name)) ≡ true
name_clean zero name = refl
name_clean (suc n) [] = refl
name_clean (suc n) (c ∷ cs) = and_from (may_stand true (shown_byte c)) (clean (map shown_byte (take n cs))) (shown_clean c) (name_clean n cs)

name_short : (n : ℕ) (name : List ℕ) → length (map shown_byte (take n name)) ≤ n
name_short zero name = omega arith
name_short (suc n) [] = omega arith
name_short (suc n) (c ∷ cs) = omega (arith, name_short n cs)

-- the digits of bytes
digit_clean : (n : ℕ) → n < 16 → may_stand true (slice_index lower_digits n) ≡ true
digit_clean n h = go (may_stand true (slice_index lower_digits n)) refl
  where
    go : (b : Bool) → may_stand true (slice_index lower_digits n) ≡ b → b ≡ true
    go true e = refl
    go false e = sym (list_all_at (may_stand true) lower_digits n 0 h e)

abbrev is_byte : ℕ → Bool
is_byte c = nat_lt c 256

digits_clean : (bytes : List ℕ) → list_all is_byte bytes ≡ true → clean (encode_lower bytes) ≡ true
unfolding encode_with
digits_clean [] h = refl
digits_clean (c ∷ cs) h =
    let both = and_parts (is_byte c) (list_all is_byte cs) h in
    let few : c < 256 = ltb-true c 256 both.0 in
    rw (digit_clean (c / 16) (omega (arith, few)), digit_clean (c % 16) (omega arith)) (digits_clean cs both.1)

low : (n : ℕ) → is_byte (n % 256) ≡ true
low n = grind (arith, nat_tests)

low_byte : (k n : ℕ) → is_byte (byte_at k n) ≡ true
low_byte zero n = low n
low_byte (suc k) n = low (n / 256 ^ suc k)

low_bytes : (k n : ℕ) → list_all is_byte (bytes_high_first k n) ≡ true
low_bytes zero n = refl
low_bytes (suc k) n = and_from (is_byte (byte_at k n)) (list_all is_byte (bytes_high_first k n)) (low_byte k n) (low_bytes k n)

digest_low : (h : List ℕ) (n : ℕ) → list_all is_byte (digest_bytes h n) ≡ true
unfolding digest_bytes
digest_low h zero = refl
digest_low h (suc n) =
    rw (list_all-append is_byte (digest_bytes h n) (to_be_bytes w32 (slice_index h n)), digest_low h n) (low_bytes 4 (slice_index h n))

digest_is_low : (text : List ℕ) → list_all is_byte (sha256 text) ≡ true
unfolding sha256
digest_is_low text = digest_low _ 8

digest_clean : (text : List ℕ) → clean (encode_lower (sha256 text)) ≡ true
digest_clean text = digits_clean (sha256 text) (digest_is_low text)

options_clean : (choices : Choices) → (clean (options_text choices) ≡ true) × (length (options_text choices) ≤ 100)
options_clean choices = go choices.no_clearing choices.compensated choices.skip_manual choices.stored_frames choices.even_touches
  where
    go : (a b c d e : Bool) → let text = or_none (option_text a (codes " --no-clearing") ++ (option_text b (codes " --compensated")
        ++ (option_text c (codes " --skip-manual") ++ (option_text d (codes " --stored-frames") ++ option_text e (codes " --even-touches"))))) in
        (clean text ≡ true) × (length text ≤ 100)
    go true true true true true = (refl, omega arith)
    go true true true true false = (refl, omega arith)
    go true true true false true = (refl, omega arith)
    go true true true false false = (refl, omega arith)
    go true true false true true = (refl, omega arith)
    go true true false true false = (refl, omega arith)
    go true true false false true = (refl, omega arith)
    go true true false false false = (refl, omega arith)
    go true false true true true = (refl, omega arith)
    go true false true true false = (refl, omega arith)
    go true false true false true = (refl, omega arith)
    go true false true false false = (refl, omega arith)
    go true false false true true = (refl, omega arith)
    go true false false true false = (refl, omega arith)
    go true false false false true = (refl, omega arith)
    go true false false false false = (refl, omega arith)
    go false true true true true = (refl, omega arith)
    go false true true true false = (refl, omega arith)
    go false true true false true = (refl, omega arith)
    go false true true false false = (refl, omega arith)
    go false true false true true = (refl, omega arith)
    go false true false true false = (refl, omega arith)
    go false true false false true = (refl, omega arith)
    go false true false false false = (refl, omega arith)
    go false false true true true = (refl, omega arith)
    go false false true true false = (refl, omega arith)
    go false false true false true = (refl, omega arith)
    go false false true false false = (refl, omega arith)
    go false false false true true = (refl, omega arith)
    go false false false true false = (refl, omega arith)
    go false false false false true = (refl, omega arith)
    go false false false false false = (refl, omega arith)

-- a comment of a front and what follows it
comment : (front rest : List ℕ) → clean front ≡ true → length front ≤ 100 → clean rest ≡ true → length rest ≤ 1000
    → IsComment (36 ∷ 36 ∷ (front ++ rest))
comment front rest h g k p = record {
  text = front ++ rest;
  is = refl;
  clean = rw (list_all-append (may_stand true) front rest, h) k;
  short = omega (arith, length-append front rest, g, p);
}

values_are : (answers : List Answer) → AllByRecursion IsComment (map value_line answers)
values_are [] = tt
values_are (a ∷ answers) = (
  comment (codes " value: ") (shown_name (a.name ++ 61 ∷ a.text)) refl (omega arith) (name_clean 1000 (a.name ++ 61 ∷ a.text))
      (name_short 1000 (a.name ++ 61 ∷ a.text)),
  values_are answers,
)

pub are_comments : (names : Names) (choices : Choices) (answers : List Answer) (text : List ℕ) → AllByRecursion IsComment (head_lines names choices answers text)
are_comments names choices answers text = (
  comment (codes " flat program, written by dme lower") [] refl (omega arith) refl (omega arith),
  (
    comment (codes " source: ") (shown_name names.program) refl (omega arith) (name_clean 1000 names.program) (name_short 1000 names.program),
    (
      comment (codes " SHA-256 of the source: ") (encode_lower (sha256 text)) refl (omega arith) (digest_clean text)
          (omega (arith, length-encode_with lower_digits (sha256 text), length-sha256 text)),
      (
        comment (codes " setup: ") (shown_name (setup_name names.setup)) refl (omega arith) (name_clean 1000 (setup_name names.setup))
            (name_short 1000 (setup_name names.setup)),
        (
          comment (codes " options:") (options_text choices) refl (omega arith) (options_clean choices).0
              (omega (arith, (options_clean choices).1)),
          values_are answers,
        ),
      ),
    ),
  ),
)
