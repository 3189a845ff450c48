-- The steps by which the readers of numerals take a text apart, as functions of lists. Public clauses cite Numerals instead.
use Rattle.std.specs.Prelude.{ℕ, Bool, ◌&&◌, ◌||◌, List, [], ◌∷◌, ◌++◌, length, take, drop, Option, Some, None, nat_le, nat_lt, ◌==◌}
use Rattle.std.specs.Prelude.{slice_index, if◌then◌else◌}
use Rattle.std.specs.Char.{is_ascii_digit}
use Rattle.std.specs.List.{prefix_len, list_all}
use Rattle.std.specs.Str.Parse.{digits_value, starts_with_minus, without_leading_sign}
use Rattle.fixed_um.specs.Numerals.{Numeral}

-- the digits at the start of a text, and what follows them
abbrev pub digits_front : List ℕ → List ℕ
digits_front text = take (prefix_len is_ascii_digit text) text

abbrev pub digits_behind : List ℕ → List ℕ
digits_behind text = drop (prefix_len is_ascii_digit text) text

-- the digits after a point at the front, and what follows those
abbrev pub fraction_front : List ℕ → List ℕ
fraction_front text = if slice_index text 0 == 46 then digits_front (drop 1 text) else []

abbrev pub fraction_behind : List ℕ → List ℕ
fraction_behind text = if slice_index text 0 == 46 then digits_behind (drop 1 text) else text

-- one to three digits
abbrev pub is_short_number : List ℕ → Bool
is_short_number ds = list_all is_ascii_digit ds && (nat_le 1 (length ds) && nat_le (length ds) 3)

-- the powers of ten, up and down, that an exponent says
abbrev pub exponent_digits : Bool → List ℕ → Option (ℕ × ℕ)
exponent_digits negative ds = if is_short_number ds then Some (
  if negative then 0 else digits_value 10 ds,
  if negative then digits_value 10 ds else 0,
) else None

unfoldable pub exponent_of : List ℕ → Option (ℕ × ℕ)
exponent_of [] = Some (0, 0)
exponent_of (c ∷ more) = if c == 69 || c == 101 then exponent_digits (starts_with_minus more) (without_leading_sign more) else None

-- a numeral from its sign, digits and exponent, where there is a digit
abbrev pub numeral_with : Bool → List ℕ → List ℕ → Option (ℕ × ℕ) → Option Numeral
numeral_with negative whole fraction None = None
numeral_with negative whole fraction (Some e) = if nat_lt 0 (length (whole ++ fraction)) then Some
    (record { negative = negative; digits = whole ++ fraction; places = length fraction; raised = e.0; lowered = e.1 }) else None

-- the numeral that an unsigned text says
abbrev pub unsigned_numeral_of : Bool → List ℕ → Option Numeral
unsigned_numeral_of negative text = numeral_with negative (digits_front text) (fraction_front (digits_behind text))
    (exponent_of (fraction_behind (digits_behind text)))

-- the numeral that a text says, if it is one
unfoldable pub numeral_of : List ℕ → Option Numeral
numeral_of text = unsigned_numeral_of (starts_with_minus text) (without_leading_sign text)
