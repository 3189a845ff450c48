-- Digits and the numbers that they write.
use Rattle.fixed_um.proofs.Names.{[], ◌&&◌, ◌*◌, ◌++◌, ◌+◌, ◌-◌, ◌<◌, ◌^◌, ◌∷◌, ◌≡◌, ◌≤◌, add-one, AllDigits, and_from, and_parts, arith, Bool, cond}
use Rattle.fixed_um.proofs.Names.{digit_value, digits_front, digits_value, digits_value_after, drop, drop-cons, false, get_or, is_ascii_digit}
use Rattle.fixed_um.proofs.Names.{is_short_number, leb-true, length, length-append, List, list_all, nat_le, nat_tests, prefix_len, refl, suc, sym}
use Rattle.fixed_um.proofs.Names.{take, true, ℕ}
use Rattle.std.proofs.lemmas.Str.Parse.{digits_value_short, numerals_by_value, tells_digits}

-- digits after a number make it no smaller
pub digits_value_after-ge : (n : ℕ) (ds : List ℕ) → n ≤ digits_value_after 10 n ds
digits_value_after-ge n [] = omega arith
digits_value_after-ge n (d ∷ ds) = omega (arith, digits_value_after-ge (n * 10 + digit_value d) ds)

pub digits_value_after-append : (n : ℕ) (xs ys : List ℕ) → digits_value_after 10 n (xs ++ ys)
    ≡ digits_value_after 10 (digits_value_after 10 n xs) ys
digits_value_after-append n [] ys = refl
digits_value_after-append n (x ∷ xs) ys = digits_value_after-append (n * 10 + digit_value x) xs ys

pub AllDigits-append : (xs ys : List ℕ) → AllDigits 10 xs → AllDigits 10 ys → AllDigits 10 (xs ++ ys)
AllDigits-append [] ys p q = q
AllDigits-append (x ∷ xs) ys p q = (p.0, AllDigits-append xs ys p.1 q)

-- the value of a byte that is a digit
pub value-digit : (c : ℕ) → digit_value c < 10 → (48 ≤ c) × (c < 58) × (digit_value c ≡ c - 48)
value-digit c h = (grind (arith, nat_tests), grind (arith, nat_tests), grind (arith, nat_tests))

-- what a loop over digits knows at one of them
pub record OneDigit (value front : ℕ) (digits : List ℕ) (i c : ℕ) : Type 0 where
  pub is_digit : digit_value c < 10
  pub more : digits_value_after 10 (value * 10 + digit_value c) (drop (i + 1) digits) ≡ digits_value_after 10 front digits
  pub rest : AllDigits 10 (drop (i + 1) digits)

pub one_digit : (value front : ℕ) (digits : List ℕ) (i : ℕ) → i < length digits
    → digits_value_after 10 value (drop i digits) ≡ digits_value_after 10 front digits → AllDigits 10 (drop i digits)
    → OneDigit value front digits i (get_or digits i 0)
one_digit value front digits i within e all =
    let step : drop i digits ≡ get_or digits i 0 ∷ drop (i + 1) digits = rw (add-one, drop-cons digits i 0) refl in
    let all2 = rw step at all in
    record { is_digit = all2.0; more = rw step at e; rest = all2.1 }

-- at a digit of a number below 10 ^ 30 the value so far, ten times and with the digit, is below it too
pub one_digit_fits : (value front : ℕ) (digits : List ℕ) (i c : ℕ) → OneDigit value front digits i c
    → digits_value_after 10 front digits < 10 ^ 30 → value * 10 + (c - 48) < 10 ^ 30
one_digit_fits value front digits i c h fits =
    let ge = digits_value_after-ge (value * 10 + digit_value c) (drop (i + 1) digits) in
    let is = (value-digit c h.is_digit).2 in
    omega (arith, ge, h.more, is)

pub digit-from_test : (c : ℕ) → is_ascii_digit c ≡ true → digit_value c < 10
digit-from_test c h = grind (arith, nat_tests)

pub digit-to_test : (c : ℕ) → digit_value c < 10 → is_ascii_digit c ≡ true
digit-to_test c h = grind (arith, nat_tests)

pub AllDigits-from_test : (ds : List ℕ) → list_all is_ascii_digit ds ≡ true → AllDigits 10 ds
AllDigits-from_test [] h = tt
AllDigits-from_test (d ∷ ds) h =
    let p = and_parts (is_ascii_digit d) (list_all is_ascii_digit ds) h in
    (digit-from_test d p.0, AllDigits-from_test ds p.1)

pub AllDigits-to_test : (ds : List ℕ) → AllDigits 10 ds → list_all is_ascii_digit ds ≡ true
AllDigits-to_test [] h = refl
AllDigits-to_test (d ∷ ds) h = and_from _ _ (digit-to_test d h.0) (AllDigits-to_test ds h.1)

-- one element more on a front
pub one_more : (n : ℕ) → 1 + n ≡ suc n
one_more n = omega arith

-- the digits at the start of a text are digits
front_step : (c : ℕ) (cs : List ℕ) (b : Bool) → is_ascii_digit c ≡ b → AllDigits 10 (digits_front cs)
    → AllDigits 10 (take (cond b (1 + prefix_len is_ascii_digit cs) 0) (c ∷ cs))
front_step c cs true e all = rw (one_more (prefix_len is_ascii_digit cs)) (digit-from_test c e, all)
front_step c cs false e all = tt

pub AllDigits-front : (text : List ℕ) → AllDigits 10 (digits_front text)
AllDigits-front [] = tt
AllDigits-front (c ∷ cs) = front_step c cs (is_ascii_digit c) refl (AllDigits-front cs)

-- that many digits write a number below that power of ten
pub digits_value-below : (k : ℕ) (ds : List ℕ) → AllDigits 10 ds → length ds ≤ k → digits_value 10 ds < 10 ^ k
digits_value-below k ds all short = digits_value_short (numerals_by_value (AllDigits 10) tells_digits) ds k all short

-- the value of digits in two parts
pub digits_value-parts : (xs ys : List ℕ) → digits_value_after 10 (digits_value_after 10 0 xs) ys ≡ digits_value 10 (xs ++ ys)
digits_value-parts xs ys = sym (digits_value_after-append 0 xs ys)

pub digits_value-both_below : (xs ys : List ℕ) → AllDigits 10 xs → AllDigits 10 ys → length (xs ++ ys) ≤ 30
    → digits_value_after 10 (digits_value_after 10 0 xs) ys < 10 ^ 30
digits_value-both_below xs ys p q short = rw (digits_value-parts xs ys)
    (digits_value-below 30 (xs ++ ys) (AllDigits-append xs ys p q) short)

pub digits_value-first_below : (xs ys : List ℕ) → AllDigits 10 xs → length (xs ++ ys) ≤ 30 → digits_value_after 10 0 xs < 10 ^ 30
digits_value-first_below xs ys p short = digits_value-below 30 xs p (omega (arith, length-append xs ys))

-- one to three digits
pub record IsShortNumber (ds : List ℕ) : Type 0 where
  pub all : AllDigits 10 ds
  pub some : 1 ≤ length ds
  pub few : length ds ≤ 3
  pub below : digits_value_after 10 0 ds < 1000

pub short_number : (ds : List ℕ) → is_short_number ds ≡ true → IsShortNumber ds
short_number ds h =
    let p = and_parts (list_all is_ascii_digit ds) (nat_le 1 (length ds) && nat_le (length ds) 3) h in
    let q = and_parts (nat_le 1 (length ds)) (nat_le (length ds) 3) p.1 in
    let all = AllDigits-from_test ds p.0 in
    let few : length ds ≤ 3 = leb-true _ _ q.1 in
    record { all = all; some = leb-true _ _ q.0; few = few; below = digits_value-below 3 ds all few }

pub short_number-below : (ds : List ℕ) → is_short_number ds ≡ true → digits_value_after 10 0 ds < 1000
short_number-below ds h = (short_number ds h).below

pub short_number-digits : (ds : List ℕ) → is_short_number ds ≡ true → AllDigits 10 ds
short_number-digits ds h = (short_number ds h).all

pub ruleset numbers = (
  short_number-below,
  short_number-digits,
  digits_value-parts,
  digits_value-both_below,
  digits_value-first_below,
  AllDigits-front,
)
