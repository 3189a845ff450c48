-- A length at the start of a text, with three decimals as it is written, and the parts by which it is taken off.
use Rattle.std.specs.Prelude.{◌≡◌, ℕ, ◌+◌, ◌*◌, ◌<◌, ◌≤◌, ◌&&◌, ◌^◌, Bool, true, List, [], ◌++◌, length, nat_le, ℤ, Ok, codes, if◌then◌else◌}
use Rattle.std.specs.List.{list_all}
use Rattle.std.specs.Str.Parse.{AllDigits, digits_value_after}
use Rattle.fixed_um.specs.Numerals.{Reads}

-- a byte of a written length: a minus, a point or a digit
abbrev pub is_length_byte : ℕ → Bool
is_length_byte c = nat_le 45 c && nat_le c 57

-- a minus, or nothing
abbrev pub minus_if : Bool → List ℕ
minus_if negative = if negative then codes "-" else []

-- at most seven digits, which write this number
pub record BeginsWithDigits (text rest : List ℕ) (value : ℕ) : Type 0 where
  pub digits : List ℕ
  pub parts : text ≡ digits ++ rest
  pub all : AllDigits 10 digits
  pub few : length digits ≤ 7
  pub value_is : value ≡ digits_value_after 10 0 digits
  pub small : value < 10 ^ 7

-- a point and three digits, which write this number
pub record BeginsWithDecimals (text rest : List ℕ) (value : ℕ) : Type 0 where
  pub digits : List ℕ
  pub parts : text ≡ codes "." ++ (digits ++ rest)
  pub all : AllDigits 10 digits
  pub three : length digits ≡ 3
  pub goes_on : (front : ℕ) → digits_value_after 10 front digits ≡ front * 1000 + value
  pub small : value < 1000

-- a numeral in millimetres within the limit, made of such bytes
pub record BeginsWithLength (limit : ℕ) (text rest : List ℕ) (value : ℤ) : Type 0 where
  pub numeral : List ℕ
  pub parts : text ≡ numeral ++ rest
  pub some : 0 < length numeral
  pub bytes : list_all is_length_byte numeral ≡ true
  pub reads : Reads 3 limit numeral (Ok value)
