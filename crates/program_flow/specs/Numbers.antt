-- Exact numbers: fractions in lowest terms within a bound (this profile), and their arithmetic.
use Rattle.std.specs.Prelude.{ℕ, zero, suc, ◌*◌, ◌/◌, ◌%◌, ◌^◌, ◌<◌, ◌≤◌, Bool, ◌&&◌, nat_le, ◌==◌, ℤ, pos, neg_ℤ, ◌*ℤ◌, ◌+ℤ◌}
use Rattle.std.specs.Prelude.{unsigned_abs, int_lt, List, Result, Ok, Err, if◌then◌else◌}
use Rattle.std.specs.Fmt.{signed_decimal}
use Rattle.fixed_um.specs.Computed.{rounded}
use Rattle.fixed_um.specs.Written.{written_component}
use Rattle.program_flow.specs.declared.faults.ValueFault.{ValueFault}
use Rattle.program_flow.specs.declared.faults.ValueFault.TheVariants.{PastBound, DivisionByZero, BadExponent}

-- the greatest numerator and denominator
abbrev pub bound : ℕ
bound = 1000000000000000000

pub record Fraction : Type 0 where
  pub over : ℤ
  pub under : ℕ

pub record IsBounded (f : Fraction) : Type 0 where
  pub over : unsigned_abs f.over ≤ bound
  pub some : 0 < f.under
  pub under : f.under ≤ bound

-- the greatest common divisor, by that many of Euclid's steps at most
unfoldable pub gcd_within : ℕ → ℕ → ℕ → ℕ
gcd_within zero a b = a
gcd_within (suc n) a zero = a
gcd_within (suc n) a (suc b) = gcd_within n (suc b) (a % suc b)

abbrev pub gcd : ℕ → ℕ → ℕ
gcd a b = gcd_within (suc b) a b

-- with or without a minus
abbrev pub signed : Bool → ℕ → ℤ
signed negative n = if negative then neg_ℤ (pos n) else pos n

-- a fraction of these, if both are within the bound
abbrev pub within_bound : Bool → ℕ → ℕ → Result Fraction ValueFault
within_bound negative over under =
    if nat_le over bound && nat_le under bound then Ok (record { over = signed negative over; under = under }) else Err PastBound

-- a / b in lowest terms
unfoldable pub reduced : ℤ → ℕ → Result Fraction ValueFault
reduced a b = within_bound (int_lt a (pos 0)) (unsigned_abs a / gcd (unsigned_abs a) b) (b / gcd (unsigned_abs a) b)

-- the value that follows from a value, or the fault that is due already
abbrev pub and_then : {A B : Type 0} → Result A ValueFault → (A → Result B ValueFault) → Result B ValueFault
and_then (Ok a) next = next a
and_then (Err fault) next = Err fault

abbrev pub whole_number : ℤ → Fraction
whole_number n = record { over = n; under = 1 }

abbrev pub opposite : Fraction → Fraction
opposite f = record { over = neg_ℤ f.over; under = f.under }

abbrev pub sum : Fraction → Fraction → Result Fraction ValueFault
sum f g = reduced (f.over *ℤ pos g.under +ℤ g.over *ℤ pos f.under) (f.under * g.under)

abbrev pub product : Fraction → Fraction → Result Fraction ValueFault
product f g = reduced (f.over *ℤ g.over) (f.under * g.under)

-- one divided by a number that is not zero
abbrev pub inverse : Fraction → Fraction
inverse f = record { over = signed (int_lt f.over (pos 0)) f.under; under = unsigned_abs f.over }

abbrev pub quotient : Fraction → Fraction → Result Fraction ValueFault
quotient f g = if unsigned_abs g.over == 0 then Err DivisionByZero else product f (inverse g)

-- without its sign
abbrev pub magnitude : Fraction → Fraction
magnitude f = record { over = pos (unsigned_abs f.over); under = f.under }

-- without its decimals, so towards zero
abbrev pub whole_part : Fraction → Fraction
whole_part f = whole_number (signed (int_lt f.over (pos 0)) (unsigned_abs f.over / f.under))

-- a value multiplied that many times by a number
unfoldable pub multiplied : Fraction → ℕ → Fraction → Result Fraction ValueFault
multiplied f zero value = Ok value
multiplied f (suc n) value = and_then (product value f) (λ next. multiplied f n next)

-- a power with a whole exponent up to 64; one below zero is a power of the inverse
abbrev pub power_within : Fraction → Fraction → Result Fraction ValueFault
power_within f g = if int_lt g.over (pos 0)
    then and_then (quotient (whole_number (pos 1)) f) (λ inverted. multiplied inverted (unsigned_abs g.over) (whole_number (pos 1)))
    else multiplied f (unsigned_abs g.over) (whole_number (pos 1))

abbrev pub power : Fraction → Fraction → Result Fraction ValueFault
power f g = if (g.under == 1) && nat_le (unsigned_abs g.over) 64 then power_within f g else Err BadExponent

-- the millionths nearest to a number; of two those farther from zero
abbrev pub millionths : Fraction → ℤ
millionths f = signed (int_lt f.over (pos 0)) (rounded (unsigned_abs f.over * 1000000) f.under)

-- the product to the nearest millionth: that of the numerators may be up to 10 ^ 32
abbrev pub in_millionths : Bool → ℕ → ℕ → Result Fraction ValueFault
in_millionths negative n m = reduced (signed negative (rounded (n * 1000000) m)) 1000000

unfoldable pub nearest_millionth : ℤ → ℕ → Result Fraction ValueFault
nearest_millionth a b = if nat_le (unsigned_abs a) (10 ^ 32) then in_millionths (int_lt a (pos 0)) (unsigned_abs a) b else Err PastBound

abbrev pub rounded_product : Fraction → Fraction → Result Fraction ValueFault
rounded_product f g = nearest_millionth (f.over *ℤ g.over) (f.under * g.under)

-- as a numeral: a whole number without a point, another in millionths
abbrev pub numeral : Fraction → List ℕ
numeral f = if f.under == 1 then signed_decimal f.over else written_component (millionths f)
