-- Digits that write a number of a schedule.
use Rattle.link_world.proofs.Names.{◌&&◌, ◌*◌, ◌+◌, ◌-◌, ◌<◌, ◌^◌, ◌≡◌, ◌≤◌, AllDigits, and_parts, arith, digits_value, digits_value_after, drop}
use Rattle.link_world.proofs.Names.{drop_all, get_or, is_number, leb-true, length, List, list_all, nat_le, sym, true, ℕ}
use Rattle.std.specs.Char.{is_ascii_digit}
use Rattle.fixed_um.proofs.DigitLemmas.{AllDigits-from_test, digits_value-below, digits_value_after-ge, one_digit, value-digit}

pub number_digits : (text : List ℕ) → is_number text ≡ true → AllDigits 10 text
number_digits text h = AllDigits-from_test text ((and_parts _ _ h).0)

pub number_below : (text : List ℕ) → is_number text ≡ true → digits_value 10 text < 10 ^ 10
number_below text h =
    let p = and_parts (list_all is_ascii_digit text) (nat_le 1 (length text) && nat_le (length text) 10) h in
    let q = and_parts (nat_le 1 (length text)) (nat_le (length text) 10) p.1 in
    digits_value-below 10 text (AllDigits-from_test text p.0) (leb-true _ _ q.1)

-- what the loop knows at a digit
pub record AtDigit (value : ℕ) (text : List ℕ) (i c : ℕ) : Type 0 where
  pub low : 48 ≤ c
  pub high : c < 58
  pub more : digits_value_after 10 (value * 10 + (c - 48)) (drop (i + 1) text) ≡ digits_value 10 text
  pub rest : AllDigits 10 (drop (i + 1) text)
  pub below : value * 10 + (c - 48) < 10 ^ 10

pub at_digit : (value : ℕ) (text : List ℕ) (i : ℕ) → is_number text ≡ true → i < length text
    → digits_value_after 10 value (drop i text) ≡ digits_value 10 text → AllDigits 10 (drop i text)
    → AtDigit value text i (get_or text i 0)
at_digit value text i number within e all =
    let one = one_digit value 0 text i within e all in
    let is = value-digit (get_or text i 0) one.is_digit in
    let more : digits_value_after 10 (value * 10 + (get_or text i 0 - 48)) (drop (i + 1) text) ≡ digits_value 10 text =
    rw (sym is.2) one.more in
    record {
      low = is.0;
      high = is.1;
      more = more;
      rest = one.rest;
      below = omega (
        arith,
        digits_value_after-ge (value * 10 + (get_or text i 0 - 48)) (drop (i + 1) text),
        more,
        number_below text
            number,
      );
    }

pub all_read : (value : ℕ) (text : List ℕ) (i : ℕ) → length text ≤ i
    → digits_value_after 10 value (drop i text) ≡ digits_value 10 text → digits_value 10 text ≡ value
all_read value text i past e = sym (rw (drop_all i text past) at e)

pub ruleset numbers = (number_digits, number_below)
