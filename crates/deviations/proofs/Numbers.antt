-- Lengths and components, as they are written, are numbers of JSON.
use Rattle.std.proofs.Common.{◌≡◌, ℕ, zero, suc, ◌+◌, ◌-◌, ◌*◌, ◌/◌, ◌%◌, ◌^◌, ◌<◌, ◌≤◌, Bool, true, false, ℤ, pos, negsuc, List, [], ◌∷◌, ◌++◌, length, get_or, refl, ap, sym, ◌∙◌, subst, arith, codes, append-nil, length-append}
use Rattle.std.specs.Prelude.{decimal, slice_index, unsigned_abs}
use Rattle.std.specs.Char.{digit_value}
use Rattle.std.specs.Fmt.{sign_text}
use Rattle.std.specs.Str.Parse.{AllDigits}
use Rattle.std.proofs.lemmas.Bool.{true≢false}
use Rattle.std.proofs.lemmas.Bool.Decides.{nat_tests}
use Rattle.std.proofs.lemmas.Fmt.{decimal_is_IsNumeral_wide, decimal_by_steps_wide, decimal_digit}
use Rattle.std.proofs.lemmas.List.{get_or_append_left}
use Rattle.fixed_um.specs.Written.{minus_sign, last_digit, three_digits, six_digits, written, written_component}
use Rattle.std.specs.Float.Numeral.{Parts, IsWellFormed, text_of}
use Rattle.ryu.specs.Plain.{IsPlain, IsPlainNumber}
use Rattle.json.specs.Print.{IsNumber}
use Rattle.json.proofs.Printed.Floats.{IsNumber-plain}

last_digit-digit : (n : ℕ) → digit_value (last_digit n) < 10
last_digit-digit n =
    let small : n % 10 < 10 = omega arith in
    grind (arith, nat_tests)

three_digits-digits : (n : ℕ) → AllDigits 10 (three_digits n)
three_digits-digits n = (last_digit-digit (n / 100), (last_digit-digit (n / 10), (last_digit-digit n, tt)))

six_digits-digits : (n : ℕ) → AllDigits 10 (six_digits n)
six_digits-digits n = (last_digit-digit (n / 1000 / 100), (last_digit-digit (n / 1000 / 10), (last_digit-digit (n / 1000), three_digits-digits n)))

-- the first digit of a number above zero is not zero
first_digit : (n : ℕ) → 0 < n → n < 10 ^ 64 → 48 < get_or (decimal n) 0 0
first_digit n some small = (decimal_by_steps_wide (λ m ds. (0 < length ds) × (0 < m → 48 < get_or ds 0 0)) (λ m l. (omega arith, λ a. omega arith))
    (λ m ds l h. (omega (arith, length-append ds ((48 + m % 10) ∷ [])), λ a. omega (arith, get_or_append_left ds ((48 + m % 10) ∷ []) 0 0 h.0, h.1 (omega arith)))) n small).1 some

no_leading_zero : (n : ℕ) → n < 10 ^ 64 → get_or (decimal n) 0 0 ≡ 48 → length (decimal n) ≡ 1
no_leading_zero zero small is = ap length (decimal_digit 0 (omega arith))
no_leading_zero (suc n) small is = absurd (omega (arith, first_digit (suc n) (omega arith) small))

parts : ℕ → List ℕ → Parts
parts whole decimals = record {
  whole = decimal whole;
  point = true;
  fraction = decimals;
  exponent_negative = false;
  exponent = [];
  len = length (decimal whole ++ (46 ∷ decimals ++ []));
}

plain : (whole : ℕ) (decimals : List ℕ) → whole < 10 ^ 64 → AllDigits 10 decimals → 0 < length decimals → IsPlain (parts whole decimals)
unfolding parts
plain whole decimals small all some = record {
  well_formed = record {
    whole_digits = (decimal_is_IsNumeral_wide whole small).0.1;
    fraction_digits = all;
    exponent_digits = tt;
    no_point = λ e. absurd (true≢false e);
    no_exponent = λ e. refl;
    len_is = refl;
  };
  whole = (decimal_is_IsNumeral_wide whole small).0.0;
  no_leading_zero = no_leading_zero whole small;
  fraction = λ e. some;
  marked = λ e. absurd (true≢false e);
}

is_minus : ℤ → Bool
is_minus (pos n) = false
is_minus (negsuc n) = true

sign_is : (z : ℤ) → minus_sign z ≡ sign_text (is_minus z)
unfolding is_minus
sign_is (pos n) = refl
sign_is (negsuc n) = refl

is_number : (z : ℤ) (whole : ℕ) (decimals : List ℕ) → whole < 10 ^ 64 → AllDigits 10 decimals → 0 < length decimals
    → IsNumber (minus_sign z ++ (decimal whole ++ (codes "." ++ decimals)))
unfolding parts
is_number z whole decimals small all some =
    let same : minus_sign z ++ (decimal whole ++ (codes "." ++ decimals)) ≡ sign_text (is_minus z) ++ text_of (parts whole decimals) =
    ap (λ (s : List ℕ). s ++ (decimal whole ++ (codes "." ++ decimals))) (sign_is z)
    ∙ ap (λ (t : List ℕ). sign_text (is_minus z) ++ (decimal whole ++ t)) (sym (append-nil (codes "." ++ decimals))) in
    IsNumber-plain _ (is_minus z, parts whole decimals, same, plain whole decimals small all some)

pub written_is_number : (z : ℤ) → unsigned_abs z < 10 ^ 64 → IsNumber (written z)
unfolding written
written_is_number z small = is_number z (unsigned_abs z / 1000) (three_digits (unsigned_abs z)) (omega arith) (three_digits-digits (unsigned_abs z)) (omega arith)

pub component_is_number : (z : ℤ) → unsigned_abs z < 10 ^ 64 → IsNumber (written_component z)
unfolding written_component
component_is_number z small = is_number z (unsigned_abs z / 1000000) (six_digits (unsigned_abs z)) (omega arith) (six_digits-digits (unsigned_abs z)) (omega arith)
