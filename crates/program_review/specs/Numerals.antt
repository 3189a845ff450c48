-- Which numeral of a statement does not read, and why (this profile).
use Rattle.std.specs.Prelude.{ℕ, ◌+◌, Bool, false, not, ◌||◌, List, [], ◌∷◌, length, take, drop, filter, position, codes, Option}
use Rattle.std.specs.Prelude.{◌==◌, if◌then◌else◌, slice_get, take_while, option_and_then}
use Rattle.std.specs.Option.{is_some, option_map, option_or}
use Rattle.std.specs.Char.{is_ascii_digit}
use Rattle.std.specs.Str.{bytes_eq}
use Rattle.fixed_um.specs.Limits.{component_limit}
use Rattle.fixed_um.specs.Computed.{value_of}
use Rattle.fixed_um.specs.declared.numerals.NumeralFault.{NumeralFault}
use Rattle.fixed_um.specs.declared.numerals.NumeralFault.TheVariants.{NotNumeral, TooManyDigits, TooLarge}
use Rattle.program_review.specs.declared.numerals.Measure.{Measure}
use Rattle.program_review.specs.declared.numerals.Measure.TheVariants.{Length, Component}
use Rattle.program_review.specs.declared.causes.Cause.{Cause}
use Rattle.program_review.specs.declared.causes.Cause.TheVariants as cause
use Rattle.program_review.specs.Words.{Named, Caused, caused}
use Rattle.program_review.specs.Spots.{Site, param_spot}
use Rattle.program_review.specs.Blocks.{in_64_bits}
use Rattle.program_review.specs.Lengths.{fault_in, length_fault}

-- why a text is no component of a direction
unfoldable pub component_fault : List ℕ → Option NumeralFault
component_fault text = fault_in (value_of 6 component_limit text)

-- why a text is not read as what it is to be
abbrev pub measure_fault : Measure → List ℕ → Option NumeralFault
measure_fault Length text = length_fault text
measure_fault Component text = component_fault text

-- a text is not read as what it is to be
abbrev pub is_no : Measure → List ℕ → Bool
is_no measure text = is_some (measure_fault measure text)

-- how many digits are before the exponent, which begins with E or e
abbrev pub is_exponent : ℕ → Bool
is_exponent b = (b == 69) || (b == 101)

abbrev pub digits_before : List ℕ → ℕ
digits_before text = length (filter is_ascii_digit (take_while (λ b. not (is_exponent b)) text))

-- why a numeral does not read as what it is to be
abbrev pub numeral_cause : NumeralFault → Measure → List ℕ → Cause
numeral_cause NotNumeral measure text = cause.NotNumeral
numeral_cause TooManyDigits measure text = cause.ManyDigits (digits_before text)
numeral_cause TooLarge measure text = cause.BeyondLimit measure

-- why a parameter, counted from 0, does not read
abbrev pub fault_cause : ℕ → Measure → List ℕ → NumeralFault → Cause
fault_cause n measure text fault = if length text == 0 then cause.NoNumeral (in_64_bits (n + 1)) else numeral_cause fault measure text

abbrev pub fault_at : ℕ → Measure → Named → NumeralFault → Caused
fault_at n measure word fault = caused (fault_cause n measure word.bytes fault) word

abbrev pub parameter_cause : Site → ℕ → Measure → List ℕ → Option Caused
parameter_cause p n measure numeral =
    option_map (fault_at n measure (param_spot p.rest p.statement n numeral)) (measure_fault measure numeral)

-- the first parameter is `CART`
abbrev pub has_cart : List (List ℕ) → Bool
has_cart [] = false
has_cart (first ∷ params) = bytes_eq first (codes "CART")

-- how many parameters precede the numerals
abbrev pub count_before : List (List ℕ) → ℕ
count_before params = if has_cart params then 1 else 0

-- the leftmost of the components, which follow three lengths, that does not read
abbrev pub leftmost_component : List (List ℕ) → Option (ℕ × Measure)
leftmost_component numerals = option_map (λ n. (n + 3, Component)) (position (is_no Component) (drop 3 numerals))

-- the leftmost numeral that does not read, and what it is to be
abbrev pub leftmost : List (List ℕ) → Option (ℕ × Measure)
leftmost numerals = option_or (option_map (λ n. (n, Length)) (position (is_no Length) (take 3 numerals))) (leftmost_component numerals)

abbrev pub numeral_at : Site → ℕ → List (List ℕ) → ℕ × Measure → Option Caused
numeral_at p before numerals at = option_and_then (parameter_cause p (before + at.0) at.1) (slice_get numerals at.0)

-- why it does not read
abbrev pub bad_numeral_of : Site → ℕ → List (List ℕ) → Option Caused
bad_numeral_of p before numerals = option_and_then (numeral_at p before numerals) (leftmost numerals)

abbrev pub bad_numeral : Site → Option Caused
bad_numeral p = bad_numeral_of p (count_before p.statement.params) (drop (count_before p.statement.params) p.statement.params)
