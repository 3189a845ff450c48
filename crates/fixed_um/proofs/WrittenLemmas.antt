-- What is written is short, and reads back.
use Rattle.fixed_um.proofs.Names.{[], ◌%◌, ◌++◌, ◌+◌, ◌/◌, ◌<◌, ◌^◌, ◌∙◌, ◌∷◌, ◌≡◌, ◌≤◌, absent, add-zero, AllDigits, ap, append-nil, arith, Bool}
use Rattle.fixed_um.proofs.Names.{codes, component_limit, decimal, decimal_digit, decimal_is_IsNumeral, decimal_step, digit_value, digits_value}
use Rattle.fixed_um.proofs.Names.{digits_value_after, Direction, false, IsDirection, IsNumeral, IsSign, last_digit, length, length-append}
use Rattle.fixed_um.proofs.Names.{length-decimal-le, List, minus, minus_sign, nat_tests, negsuc, none, nothing, Numeral, Ok, one-le-pow, pointed, pos}
use Rattle.fixed_um.proofs.Names.{Reads, ReadsDirection, refl, signed, six_digits, Some, StandsFor, subst, sym, three_digits, true, unsigned_abs}
use Rattle.fixed_um.proofs.Names.{wire_limit, ℕ, ℤ}
use Rattle.fixed_um.specs.Written.{written, written_component}
use Rattle.fixed_um.proofs.DigitLemmas.{AllDigits-append, digits_value_after-append}
use Rattle.fixed_um.proofs.RoundingLemmas.{rounds_exact}
use Rattle.fixed_um.proofs.ReadLemmas.{stands}

-- a number below 10 ^ 7 has at most seven digits
pub whole-short : (n : ℕ) → n < 10 ^ 7 → length (decimal n) ≤ 7
whole-short n small = length-decimal-le 7 n (omega arith) small (omega arith)

-- three digits after a 1
step : (n : ℕ) → 10 ≤ n → n < 2000 → decimal n ≡ decimal (n / 10) ++ ((48 + n % 10) ∷ [])
step n low high = decimal_step n low (omega arith)

four : (m n : ℕ) → m ≡ 1000 + n % 1000 → decimal m ≡ 49 ∷ three_digits n
four m n e =
    let one : m / 10 / 10 / 10 ≡ 1 = omega (arith, e) in
    let a : m / 10 / 10 % 10 ≡ n / 100 % 10 = omega (arith, e) in
    let b : m / 10 % 10 ≡ n / 10 % 10 = omega (arith, e) in
    let c : m % 10 ≡ n % 10 = omega (arith, e) in
    rw (
      step m (omega (arith, e)) (omega (arith, e)),
      step (m / 10) (omega (arith, e)) (omega (arith, e)),
      step (m / 10 / 10) (omega (arith, e)) (omega (arith, e)),
      one,
      decimal_digit 1 (omega arith),
      a,
      b,
      c,
    )
    refl

pub three_behind_one : (n : ℕ) → decimal (1000 + n % 1000) ≡ 49 ∷ three_digits n
three_behind_one n = four (1000 + n % 1000) n refl

pub three_behind_one-length : (n : ℕ) → length (decimal (1000 + n % 1000)) ≡ 4
three_behind_one-length n = ap length (three_behind_one n)

pub ruleset short = (whole-short)

-- ---- what is written reads back

last_digit-value : (n : ℕ) → digit_value (last_digit n) ≡ n % 10
last_digit-value n =
    let small : n % 10 < 10 = omega arith in
    grind (arith, nat_tests)

last_digit-digit : (n : ℕ) → digit_value (last_digit n) < 10
last_digit-digit n = omega (arith, last_digit-value n)

three_digits-digits : (n : ℕ) → AllDigits 10 (three_digits n)
three_digits-digits n = (last_digit-digit (n / 100), (last_digit-digit (n / 10), (last_digit-digit n, tt)))

-- digits with three more
three_digits-value : (v n : ℕ) → v ≡ n / 1000 → digits_value_after 10 v (three_digits n) ≡ n
three_digits-value v n e = omega (arith, last_digit-value (n / 100), last_digit-value (n / 10), last_digit-value n, e)

thousands : (n : ℕ) → n / 1000000 ≡ n / 1000 / 1000
thousands n = omega arith

six_digits-value : (v n : ℕ) → v ≡ n / 1000000 → digits_value_after 10 v (six_digits n) ≡ n
six_digits-value v n e = digits_value_after-append v (three_digits (n / 1000)) (three_digits n)
    ∙ three_digits-value _ n (three_digits-value v (n / 1000) (e ∙ thousands n))

is_minus : ℤ → Bool
is_minus (pos n) = false
is_minus (negsuc n) = true

sign_is : (z : ℤ) → IsSign (minus_sign z) (is_minus z)
unfolding is_minus
sign_is (pos n) = none refl
sign_is (negsuc n) = minus refl

signed_is : (z : ℤ) → signed (is_minus z) (unsigned_abs z) ≡ z
unfolding is_minus
signed_is (pos n) = refl
signed_is (negsuc n) = refl

-- a whole part and that many decimals, written with the sign of z, stand for z
written_stands : (scale : ℕ) (z : ℤ) (whole : ℕ) (decimals : List ℕ) → whole < 10 ^ 7 → AllDigits 10 decimals → length decimals ≡ scale
    → scale ≤ 6 → digits_value_after 10 whole decimals ≡ unsigned_abs z
    → StandsFor scale (minus_sign z ++ (decimal whole ++ (codes "." ++ decimals))) z
written_stands scale z whole decimals small all long few value =
    let text = minus_sign z ++ (decimal whole ++ (codes "." ++ decimals)) in
    let d = decimal_is_IsNumeral whole (omega arith) in
    let n : Numeral = record {
      negative = is_minus z;
      digits = decimal whole ++ decimals;
      places = length decimals;
      raised = 0;
      lowered = 0;
    } in
    let short = whole-short whole small in
    let spelled : IsNumeral text n = record {
      sign = minus_sign z;
      whole = decimal whole;
      point = codes "." ++ decimals;
      fraction = decimals;
      exponent = [];
      parts = ap (λ (t : List ℕ). minus_sign z ++ (decimal whole ++ t)) (sym (append-nil (codes "." ++ decimals)));
      is_sign = sign_is z;
      is_whole = d.0.1;
      is_fraction = pointed decimals all refl;
      is_exponent = nothing refl;
      digits_are = refl;
      places_are = refl;
      some_digit = omega (arith, length-append (decimal whole) decimals, d.0.0);
    } in
    let digits : unsigned_abs z ≡ digits_value 10 n.digits = sym (digits_value_after-append 0 (decimal whole) decimals
    ∙ ap (λ (v : ℕ). digits_value_after 10 v decimals) d.1 ∙ value) in
    let exact = rounds_exact (unsigned_abs z) (10 ^ scale) (omega (arith, one-le-pow scale 10 (omega arith))) in
    subst (λ (r : ℤ). StandsFor scale text r) (signed_is z) (stands scale text n (unsigned_abs z) (unsigned_abs z) spelled
    (omega (arith, length-append (decimal whole) decimals, short, long, few)) digits (rw (long, add-zero) exact))

pub written_reads_back : (limit : ℕ) (z : ℤ) → unsigned_abs z ≤ limit → limit ≤ wire_limit → Reads 3 limit (written z) (Ok z)
unfolding written
written_reads_back limit z within most = (
  written_stands 3 z (unsigned_abs z / 1000) (three_digits (unsigned_abs z)) (omega arith)
      (three_digits-digits (unsigned_abs z)) refl (omega arith) (three_digits-value (unsigned_abs z / 1000) (unsigned_abs z) refl),
  within,
)

pub component_reads_back : (z : ℤ) → unsigned_abs z ≤ component_limit → Reads 6 component_limit (written_component z) (Ok z)
unfolding written_component
component_reads_back z within = (
  written_stands 6 z (unsigned_abs z / 1000000) (six_digits (unsigned_abs z)) (omega arith)
      (AllDigits-append (three_digits (unsigned_abs z / 1000)) (three_digits (unsigned_abs z)) (three_digits-digits (unsigned_abs z / 1000))
      (three_digits-digits (unsigned_abs z))) refl (omega arith) (six_digits-value (unsigned_abs z / 1000000) (unsigned_abs z) refl),
  within,
)

pub direction_reads_back : (d : Direction) → IsDirection d → ReadsDirection (written_component d.i) (written_component d.j)
    (written_component d.k) (Ok (Some d))
direction_reads_back d h = (
  component_reads_back d.i h.i_within,
  component_reads_back d.j h.j_within,
  component_reads_back d.k h.k_within,
  h,
)

-- the components of a direction along an axis
pub zero_component : codes "0.000000" ≡ written_component (pos 0)
unfolding written_component
zero_component = ap (λ (whole : List ℕ). whole ++ codes ".000000") (sym (decimal_digit 0 (omega arith)))

pub one_component : codes "1.000000" ≡ written_component (pos 1000000)
unfolding written_component
one_component = ap (λ (whole : List ℕ). whole ++ codes ".000000") (sym (decimal_digit 1 (omega arith)))

pub minus_one_component : codes "-1.000000" ≡ written_component (negsuc 999999)
unfolding written_component
minus_one_component = ap (λ (whole : List ℕ). codes "-" ++ (whole ++ codes ".000000")) (sym (decimal_digit 1 (omega arith)))

-- what the components along an axis read as, with decimals and without
pub zero_reads : Reads 6 component_limit (codes "0.000000") (Ok (pos 0))
zero_reads = subst (λ (text : List ℕ). Reads 6 component_limit text (Ok (pos 0))) (sym zero_component)
    (component_reads_back (pos 0) (omega arith))

pub one_reads : Reads 6 component_limit (codes "1.000000") (Ok (pos 1000000))
one_reads = subst (λ (text : List ℕ). Reads 6 component_limit text (Ok (pos 1000000))) (sym one_component)
    (component_reads_back (pos 1000000) (omega arith))

pub zero_digit_reads : Reads 6 component_limit (codes "0") (Ok (pos 0))
zero_digit_reads =
    let n : Numeral = record { negative = false; digits = codes "0"; places = 0; raised = 0; lowered = 0 } in
    let spelled : IsNumeral (codes "0") n = record {
      sign = [];
      whole = codes "0";
      point = [];
      fraction = [];
      exponent = [];
      parts = refl;
      is_sign = none refl;
      is_whole = (omega arith, tt);
      is_fraction = absent refl;
      is_exponent = nothing refl;
      digits_are = refl;
      places_are = refl;
      some_digit = omega arith;
    } in
    (stands 6 (codes "0") n 0 0 spelled (omega arith) refl (rounds_exact 0 1 (omega arith)), omega arith)

pub one_digit_reads : Reads 6 component_limit (codes "1") (Ok (pos 1000000))
one_digit_reads =
    let n : Numeral = record { negative = false; digits = codes "1"; places = 0; raised = 0; lowered = 0 } in
    let spelled : IsNumeral (codes "1") n = record {
      sign = [];
      whole = codes "1";
      point = [];
      fraction = [];
      exponent = [];
      parts = refl;
      is_sign = none refl;
      is_whole = (omega arith, tt);
      is_fraction = absent refl;
      is_exponent = nothing refl;
      digits_are = refl;
      places_are = refl;
      some_digit = omega arith;
    } in
    (stands 6 (codes "1") n 1 1000000 spelled (omega arith) refl (rounds_exact 1000000 1 (omega arith)), omega arith)
