-- The reading of a numeral as a function that computes, next to the relation: equal to it, slower than the code, and at hand for examples
-- and models.
use Rattle.std.specs.Prelude.{ℕ, ◌+◌, ◌*◌, ◌/◌, ◌^◌, Bool, false, ◌&&◌, length, List, Option, Some, None, Result, Ok, Err, ℤ}
use Rattle.std.specs.Prelude.{nat_le, ◌==◌, if◌then◌else◌}
use Rattle.std.specs.Str.Parse.{digits_value}
use Rattle.fixed_um.specs.Numerals.{Numeral, signed}
use Rattle.fixed_um.specs.Scan.{numeral_of}
use Rattle.fixed_um.specs.declared.numerals.NumeralFault.{NumeralFault}
use Rattle.fixed_um.specs.declared.numerals.NumeralFault.TheVariants.{NotNumeral, TooManyDigits, TooLarge}

-- a / b rounded, a half up
abbrev pub rounded : ℕ → ℕ → ℕ
rounded a b = (2 * a + b) / (2 * b)

-- the rounded value of a numeral without its sign, in units of which 10 ^ scale make one
abbrev pub magnitude_of : ℕ → Numeral → ℕ
magnitude_of scale n = rounded (digits_value 10 n.digits * 10 ^ (scale + n.raised)) (10 ^ (n.places + n.lowered))

abbrev pub value_within : ℕ → Bool → ℕ → Result ℤ NumeralFault
value_within limit negative magnitude = if nat_le magnitude limit then Ok (signed negative magnitude) else Err TooLarge

abbrev pub numeral_value : ℕ → ℕ → Option Numeral → Result ℤ NumeralFault
numeral_value scale limit None = Err NotNumeral
numeral_value scale limit (Some n) = if nat_le (length n.digits) 30 then value_within limit n.negative (magnitude_of scale n) else Err
    TooManyDigits

-- the value of a text, or the fault that is due
abbrev pub value_of : ℕ → ℕ → List ℕ → Result ℤ NumeralFault
value_of scale limit text = numeral_value scale limit (numeral_of text)

-- whether a text is a numeral of zeros
abbrev pub is_zero_numeral : Option Numeral → Bool
is_zero_numeral None = false
is_zero_numeral (Some n) = nat_le (length n.digits) 30 && (digits_value 10 n.digits == 0)

abbrev pub is_zero_text : List ℕ → Bool
is_zero_text text = is_zero_numeral (numeral_of text)
