-- Digits that write a count.
use Rattle.dmis_program.proofs.Names.{[], ◌*◌, ◌+◌, ◌-◌, ◌<◌, ◌∷◌, ◌≡◌, ◌≤◌, add-one, and_parts, arith, digit_value, digits_value, digits_value_after}
use Rattle.dmis_program.proofs.Names.{drop, drop-cons, drop_all, false, get_or, is_ascii_digit, length, List, list_all, nat_tests, None, refl, Some}
use Rattle.dmis_program.proofs.Names.{sym, true, ℕ}
use Rattle.dmis_program.specs.Parameters.{count_of}

-- digits after a number make it no smaller
digits_value_after-ge : (n : ℕ) (ds : List ℕ) → n ≤ digits_value_after 10 n ds
digits_value_after-ge n [] = omega arith
digits_value_after-ge n (d ∷ ds) = omega (arith, digits_value_after-ge (n * 10 + digit_value d) ds)

-- a byte that is a digit
record IsDigit (c : ℕ) : Type 0 where
  low : 48 ≤ c
  high : c < 58
  value : digit_value c ≡ c - 48

is_digit : (c : ℕ) → is_ascii_digit c ≡ true → IsDigit c
is_digit c h = record { low = grind (arith, nat_tests); high = grind (arith, nat_tests); value = grind (arith, nat_tests) }

-- what a loop over digits knows at one of them
pub record OneDigit (value : ℕ) (digits : List ℕ) (i c : ℕ) : Type 0 where
  pub low : 48 ≤ c
  pub high : c < 58
  pub more : digits_value_after 10 (value * 10 + (c - 48)) (drop (i + 1) digits) ≡ digits_value 10 digits
  pub rest : list_all is_ascii_digit (drop (i + 1) digits) ≡ true
  pub grows : value * 10 + (c - 48) ≤ digits_value 10 digits

pub one_digit : (value : ℕ) (digits : List ℕ) (i : ℕ) → i < length digits
    → digits_value_after 10 value (drop i digits) ≡ digits_value 10 digits → list_all is_ascii_digit (drop i digits) ≡ true
    → OneDigit value digits i (get_or digits i 0)
one_digit value digits i within e all =
    let step : drop i digits ≡ get_or digits i 0 ∷ drop (i + 1) digits = rw (add-one, drop-cons digits i 0) refl in
    let all2 = and_parts (is_ascii_digit (get_or digits i 0)) (list_all is_ascii_digit (drop (i + 1) digits)) (rw step at all) in
    let more2 = rw step at e in
    let digit = is_digit (get_or digits i 0) all2.0 in
    let more : digits_value_after 10 (value * 10 + (get_or digits i 0 - 48)) (drop (i + 1) digits) ≡ digits_value 10 digits =
    rw (sym digit.value) more2 in
    record {
      low = digit.low;
      high = digit.high;
      more = more;
      rest = all2.1;
      grows = omega (arith, digits_value_after-ge (value * 10 + (get_or digits i 0 - 48)) (drop (i + 1) digits), more);
    }

-- the count of a text, by the way in which the loop ends
pub no_digits : (text : List ℕ) → list_all is_ascii_digit text ≡ false → None ≡ count_of text
unfolding count_of
no_digits text h = rw h refl

pub past_count : (text : List ℕ) → list_all is_ascii_digit text ≡ true → 10000 < digits_value 10 text → None ≡ count_of text
unfolding count_of
past_count text h past = rw h (grind (arith, nat_tests))

pub counted : (text : List ℕ) (n : ℕ) → list_all is_ascii_digit text ≡ true → digits_value 10 text ≡ n → n ≤ 10000 → 0 < n
    → Some n ≡ count_of text
unfolding count_of
counted text n h e few some = rw (h, e) (grind (arith, nat_tests))

pub zero_count : (text : List ℕ) (n : ℕ) → list_all is_ascii_digit text ≡ true → digits_value 10 text ≡ n → n ≤ 0 → None ≡ count_of text
unfolding count_of
zero_count text n h e none = rw (h, e) (grind (arith, nat_tests))

-- after the last digit
pub all_counted : (value : ℕ) (digits : List ℕ) (i : ℕ) → length digits ≤ i
    → digits_value_after 10 value (drop i digits) ≡ digits_value 10 digits → digits_value 10 digits ≡ value
all_counted value digits i past e = sym (rw (drop_all i digits past) at e)
