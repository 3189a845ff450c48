-- What a flat statement is made of is solid.
use Rattle.program_lowering.proofs.Names.{[], ◌%◌, ◌++◌, ◌+◌, ◌/◌, ◌<◌, ◌^◌, ◌∷◌, ◌≡◌, ◌≤◌, AllDigits, and_from, and_parts, arith, codes}
use Rattle.program_lowering.proofs.Names.{component_limit, decimal, decimal_is_IsNumeral, digit_value, is_ascii_alphabetic, is_ascii_digit}
use Rattle.program_lowering.proofs.Names.{is_name_byte, is_name_text, IsName, last_digit, leb-true, length, length-append, length-decimal-le, List}
use Rattle.program_lowering.proofs.Names.{list_all, list_all-append, map, minus_sign, nat_le, nat_tests, negsuc, pos, refl, six_digits, suc, take}
use Rattle.program_lowering.proofs.Names.{three_digits, to_ascii_uppercase, true, unsigned_abs, volume_limit, within, zero, ℕ, ℤ}
use Rattle.fixed_um.specs.Names.{folded}
use Rattle.fixed_um.specs.Written.{written, written_component}
use Rattle.program_lowering.proofs.Solid.{is_solid, solid}

-- digits
digit_solid : (d : ℕ) → digit_value d < 10 → is_solid d ≡ true
digit_solid d h = grind (arith, nat_tests)

digits_solid : (ds : List ℕ) → AllDigits 10 ds → solid ds ≡ true
digits_solid [] h = refl
digits_solid (d ∷ ds) h = and_from (is_solid d) (solid ds) (digit_solid d h.0) (digits_solid ds h.1)

pub decimal_solid : (n : ℕ) → n < 2 ^ 64 → solid (decimal n) ≡ true
decimal_solid n few = digits_solid (decimal n) (decimal_is_IsNumeral n few).0.1

digit_ascii : (d : ℕ) → digit_value d < 10 → is_ascii_digit d ≡ true
digit_ascii d h = grind (arith, nat_tests)

digits_ascii : (ds : List ℕ) → AllDigits 10 ds → list_all is_ascii_digit ds ≡ true
digits_ascii [] h = refl
digits_ascii (d ∷ ds) h = and_from (is_ascii_digit d) (list_all is_ascii_digit ds) (digit_ascii d h.0) (digits_ascii ds h.1)

pub decimal_ascii : (n : ℕ) → n < 2 ^ 64 → list_all is_ascii_digit (decimal n) ≡ true
decimal_ascii n few = digits_ascii (decimal n) (decimal_is_IsNumeral n few).0.1

-- two lists one after the other
pub solid_append : (xs ys : List ℕ) → solid xs ≡ true → solid ys ≡ true → solid (xs ++ ys) ≡ true
solid_append xs ys h g = rw (list_all-append is_solid xs ys, h) g

-- lengths and components
last_solid : (n : ℕ) → is_solid (last_digit n) ≡ true
last_solid n = small (n % 10) (omega arith)
  where
    small : (d : ℕ) → d < 10 → is_solid (48 + d) ≡ true
    small d h = grind (arith, nat_tests)

three_solid : (n : ℕ) → solid (three_digits n) ≡ true
three_solid n = rw (last_solid (n / 100), last_solid (n / 10), last_solid n) refl

minus_solid : (z : ℤ) → solid (minus_sign z) ≡ true
minus_solid (pos n) = refl
minus_solid (negsuc n) = refl

minus_short : (z : ℤ) → length (minus_sign z) ≤ 1
minus_short (pos n) = omega arith
minus_short (negsuc n) = omega arith

number_solid : (z : ℤ) (whole : ℕ) (places : List ℕ) → whole < 2 ^ 64 → solid places ≡ true
    → solid (minus_sign z ++ (decimal whole ++ (codes "." ++ places))) ≡ true
number_solid z whole places few h =
    solid_append (minus_sign z) (decimal whole ++ (codes "." ++ places)) (minus_solid z)
    (solid_append (decimal whole) (codes "." ++ places) (decimal_solid whole few) h)

number_short : (z : ℤ) (whole : ℕ) (places : List ℕ) → whole < 10 ^ 7 → length places ≤ 6
    → length (minus_sign z ++ (decimal whole ++ (codes "." ++ places))) ≤ 100
number_short z whole places few h =
    omega (
      arith,
      minus_short z,
      length-append (minus_sign z) (decimal whole ++ (codes "." ++ places)),
      length-append (decimal whole) (codes "." ++ places),
      length-decimal-le 7 whole (omega arith) few (omega (arith, few)),
      h,
    )

pub written_solid : (z : ℤ) → unsigned_abs z ≤ volume_limit → solid (written z) ≡ true
unfolding written
written_solid z h = number_solid z (unsigned_abs z / 1000) (three_digits (unsigned_abs z)) (omega (arith, h)) (three_solid (unsigned_abs z))

pub wire_solid : (z : ℤ) → unsigned_abs z ≤ 4000000000 → solid (written z) ≡ true
unfolding written
wire_solid z h = number_solid z (unsigned_abs z / 1000) (three_digits (unsigned_abs z)) (omega (arith, h)) (three_solid (unsigned_abs z))

pub written_short : (z : ℤ) → unsigned_abs z ≤ volume_limit → length (written z) ≤ 100
unfolding written
written_short z h = number_short z (unsigned_abs z / 1000) (three_digits (unsigned_abs z)) (omega (arith, h)) (omega arith)

pub component_solid : (z : ℤ) → unsigned_abs z ≤ component_limit → solid (written_component z) ≡ true
unfolding written_component
component_solid z h = number_solid z (unsigned_abs z / 1000000) (six_digits (unsigned_abs z)) (omega (arith, h))
    (solid_append (three_digits (unsigned_abs z / 1000)) (three_digits (unsigned_abs z)) (three_solid (unsigned_abs z / 1000))
    (three_solid (unsigned_abs z)))

pub component_short : (z : ℤ) → unsigned_abs z ≤ component_limit → length (written_component z) ≤ 100
unfolding written_component
component_short z h = number_short z (unsigned_abs z / 1000000) (six_digits (unsigned_abs z)) (omega (arith, h)) (omega arith)

-- names
name_byte_solid : (c : ℕ) → is_name_byte c ≡ true → to_ascii_uppercase c ≡ c → is_solid c ≡ true
name_byte_solid c h e = grind (arith, nat_tests)

name_bytes_solid : (name : List ℕ) → list_all is_name_byte name ≡ true → folded name ≡ name → solid name ≡ true
name_bytes_solid [] h e = refl
name_bytes_solid (c ∷ cs) h e =
    let both = and_parts (is_name_byte c) (list_all is_name_byte cs) h in
    let one : to_ascii_uppercase c ≡ c = cc in
    let more : folded cs ≡ cs = cc in
    and_from (is_solid c) (solid cs) (name_byte_solid c both.0 one) (name_bytes_solid cs both.1 more)

record NameParts (name : List ℕ) : Type 0 where
  some : 1 ≤ length name
  short : length name ≤ 64
  bytes : list_all is_name_byte name ≡ true

name_parts : (name : List ℕ) → is_name_text name ≡ true → NameParts name
name_parts name h =
    let a = and_parts (nat_le 1 (length name)) _ h in
    let b = and_parts (nat_le (length name) 64) (list_all is_name_byte name) a.1 in
    record { some = leb-true _ _ a.0; short = leb-true _ _ b.0; bytes = b.1 }

pub within_solid : (mark name : List ℕ) → solid mark ≡ true → IsName name → solid (within mark name) ≡ true
within_solid mark name h n =
    solid_append mark (name ++ codes ")") h
    (solid_append name (codes ")") (name_bytes_solid name (name_parts name n.named).bytes n.capitals) refl)

pub within_short : (mark name : List ℕ) → length mark ≤ 3 → IsName name → length (within mark name) ≤ 100
within_short mark name h n =
    omega (arith, length-append mark (name ++ codes ")"), length-append name (codes ")"), (name_parts name n.named).short, h)

-- letters
letter_solid : (c : ℕ) → is_ascii_alphabetic c ≡ true → is_solid (to_ascii_uppercase c) ≡ true
letter_solid c h = grind (arith, nat_tests)

letter_stays : (c : ℕ) → is_ascii_alphabetic c ≡ true → is_ascii_alphabetic (to_ascii_uppercase c) ≡ true
letter_stays c h = grind (arith, nat_tests)

pub letters_solid : (n : ℕ) (cs : List ℕ) → list_all is_ascii_alphabetic cs ≡ true → solid (map to_ascii_uppercase (take n cs)) ≡ true
letters_solid zero cs h = refl
letters_solid (suc n) [] h = refl
letters_solid (suc n) (c ∷ cs) h =
    let both = and_parts (is_ascii_alphabetic c) (list_all is_ascii_alphabetic cs) h in
    and_from (is_solid (to_ascii_uppercase c)) _ (letter_solid c both.0) (letters_solid n cs both.1)

pub letters_stay : (n : ℕ) (cs : List ℕ) → list_all is_ascii_alphabetic cs ≡ true
    → list_all is_ascii_alphabetic (map to_ascii_uppercase (take n cs)) ≡ true
letters_stay zero cs h = refl
letters_stay (suc n) [] h = refl
letters_stay (suc n) (c ∷ cs) h =
    let both = and_parts (is_ascii_alphabetic c) (list_all is_ascii_alphabetic cs) h in
    and_from (is_ascii_alphabetic (to_ascii_uppercase c)) _ (letter_stays c both.0) (letters_stay n cs both.1)

pub letters_short : (n : ℕ) (cs : List ℕ) → length (map to_ascii_uppercase (take n cs)) ≤ n
letters_short zero cs = omega arith
letters_short (suc n) [] = omega arith
letters_short (suc n) (c ∷ cs) = omega (arith, letters_short n cs)
