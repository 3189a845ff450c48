-- The value of an expression (ISO 22093; the limits are this profile's), where a function gives the values of names. An apostrophe is 39.
use Rattle.std.specs.Prelude.{ℕ, zero, suc, ◌+◌, ◌*◌, ◌-◌, ◌^◌, Bool, true, false, ◌&&◌, ◌||◌, ◌==◌, nat_le, nat_lt, List, [], ◌∷◌, ◌++◌, length}
use Rattle.std.specs.Prelude.{bytes_eq, take, drop, Option, Some, None, Result, Ok, Err, pos, codes, if◌then◌else◌}
use Rattle.std.specs.Char.{is_ascii_digit, is_ascii_alphanumeric, is_ascii_alphabetic}
use Rattle.std.specs.List.{position, list_all}
use Rattle.program_flow.specs.Numbers.{Fraction, and_then, reduced, sum, product, quotient, opposite, power, magnitude, whole_part, numeral}
use Rattle.program_flow.specs.Roots.{root}
use Rattle.program_flow.specs.Angles.{cosine, in_degrees, in_radians, sine, tangent}
use Rattle.program_flow.specs.Parts.{Parts, parts_of, begins_numeral}
use Rattle.program_flow.specs.Parts.Parts.{Both, Opposite, Same, Called, Leaf}
use Rattle.program_flow.specs.declared.places.Operator.{Operator}
use Rattle.program_flow.specs.declared.places.Operator.TheVariants.{Plus, Minus, Times, Over, Power}
use Rattle.program_flow.specs.declared.faults.ValueFault.{ValueFault}
use Rattle.program_flow.specs.declared.faults.ValueFault.TheVariants.{NotExpression, NotNumber, UnknownFunction, PastBound, TooDeep}

-- what a variable has: a number, or a text of letters
pub data Value : Type 0 where
  Number : Fraction → Value
  Letters : List ℕ → Value

-- the values of names
abbrev pub Valuation : Type 0
Valuation = List ℕ → Result Value ValueFault

abbrev pub number_of : Value → Result Fraction ValueFault
number_of (Number f) = Ok f
number_of (Letters text) = Err NotNumber

-- operations within one another
abbrev pub levels : ℕ
levels = 100

-- a number with one digit more, which stays below 10 ^ 18
abbrev pub with_digit : ℕ → ℕ → Result ℕ ValueFault
with_digit value c = if is_ascii_digit c then (if nat_lt value (10 ^ 17) then Ok (value * 10 + (c - 48)) else Err PastBound) else Err NotExpression

-- the number that digits write after one that is there already
abbrev pub number_after : ℕ → List ℕ → Result ℕ ValueFault
number_after value [] = Ok value
number_after value (c ∷ cs) = and_then (with_digit value c) (λ next. number_after next cs)

-- digits times some tens, divided by the tens of the places and of the exponent
abbrev pub scaled : ℕ → ℕ → ℕ → ℕ → Result Fraction ValueFault
scaled value places raised lowered = if nat_le places 18 then reduced (pos (value * 10 ^ raised)) (10 ^ (places + lowered)) else Err PastBound

-- digits before and after a point
abbrev pub pointed_value : List ℕ → List ℕ → ℕ × ℕ → Result Fraction ValueFault
pointed_value whole fraction exponent = and_then (number_after 0 whole) (λ front. and_then (number_after front fraction)
    (λ value. scaled value (length fraction) exponent.0 exponent.1))

-- cut at the point, or without one; a point alone is no numeral
abbrev pub mantissa_at : List ℕ → Option ℕ → ℕ × ℕ → Result Fraction ValueFault
mantissa_at text None exponent = pointed_value text [] exponent
mantissa_at text (Some i) exponent = if nat_le (length text) 1 then Err NotExpression else pointed_value (take i text) (drop (i + 1) text) exponent

abbrev pub mantissa_value : List ℕ → ℕ × ℕ → Result Fraction ValueFault
mantissa_value text exponent = if length text == 0 then Err NotExpression else mantissa_at text (position (λ b. b == 46) text) exponent

-- the tens, up and down, of an exponent of digits up to 18
abbrev pub exponent_digits : Bool → List ℕ → Result (ℕ × ℕ) ValueFault
exponent_digits negative digits = if length digits == 0 then Err NotExpression else
    and_then (number_after 0 digits) (λ n. if nat_le n 18 then (if negative then Ok (0, n) else Ok (n, 0)) else Err PastBound)

-- with a sign, or without one
abbrev pub exponent_of : List ℕ → Result (ℕ × ℕ) ValueFault
exponent_of [] = exponent_digits false []
exponent_of (c ∷ cs) = if c == 45 then exponent_digits true cs else
    (if c == 43 then exponent_digits false cs else exponent_digits false (c ∷ cs))

-- a numeral without exponent, or with one after an E
abbrev pub numeral_at : List ℕ → Option ℕ → Result Fraction ValueFault
numeral_at text None = mantissa_value text (0, 0)
numeral_at text (Some i) = and_then (exponent_of (drop (i + 1) text)) (λ exponent. mantissa_value (take i text) exponent)

unfoldable pub numeral_value : List ℕ → Result Fraction ValueFault
numeral_value text = numeral_at text (position (λ b. b == 69) text)

-- letters, digits and underscores
abbrev pub is_name_byte : ℕ → Bool
is_name_byte c = is_ascii_alphanumeric c || (c == 95)

abbrev pub all_name_bytes : List ℕ → Bool
all_name_bytes text = list_all is_name_byte text

-- a name of a variable: a letter first
abbrev pub is_variable : List ℕ → Bool
is_variable [] = false
is_variable (c ∷ cs) = is_ascii_alphabetic c && all_name_bytes (c ∷ cs)

abbrev pub is_numeral : List ℕ → Bool
is_numeral [] = false
is_numeral (c ∷ cs) = begins_numeral c

-- one numeral or name
abbrev pub leaf_value : Valuation → List ℕ → Result Fraction ValueFault
leaf_value said text = if is_numeral text then numeral_value text else
    (if is_variable text then and_then (said text) number_of else Err NotExpression)

abbrev pub applied : Operator → Fraction → Fraction → Result Fraction ValueFault
applied Plus f g = sum f g
applied Minus f g = sum f (opposite g)
applied Times f g = product f g
applied Over f g = quotient f g
applied Power f g = power f g

-- a value by a function's name
abbrev pub function_named : List ℕ → Fraction → Result Fraction ValueFault
function_named name f = if bytes_eq name (codes "SQRT") then root f else (if bytes_eq name (codes "SIN") then sine f else
    (if bytes_eq name (codes "COS") then cosine f else (if bytes_eq name (codes "TAN") then tangent f else
    (if bytes_eq name (codes "DTOR") then in_radians f else (if bytes_eq name (codes "RTOD") then in_degrees f else Err UnknownFunction)))))

-- parentheses, the value without its sign, or without its decimals, or another function
abbrev pub function_of : List ℕ → Fraction → Result Fraction ValueFault
function_of name f = if bytes_eq name [] then Ok f else (if bytes_eq name (codes "ABS") then Ok (magnitude f) else
    (if bytes_eq name (codes "INT") then Ok (whole_part f) else function_named name f))

-- the value of parts, where another function gives the values of what they are made of: the left operand's fault comes first
abbrev pub parts_value : Valuation → (List ℕ → Result Fraction ValueFault) → Parts → Result Fraction ValueFault
parts_value said inner (Both left operator right) = and_then (inner left) (λ f. and_then (inner right) (λ g. applied operator f g))
parts_value said inner (Opposite rest) = and_then (inner rest) (λ f. Ok (opposite f))
parts_value said inner (Same rest) = inner rest
parts_value said inner (Called name text) = and_then (inner text) (λ f. function_of name f)
parts_value said inner (Leaf text) = leaf_value said text

-- the value of a text with operations within one another up to a limit
unfoldable pub value_within : Valuation → ℕ → List ℕ → Result Fraction ValueFault
value_within said zero text = Err TooDeep
value_within said (suc n) text = parts_value said (value_within said n) (parts_of text)

abbrev pub value_of : Valuation → List ℕ → Result Fraction ValueFault
value_of said text = value_within said levels text

-- a numeral, with one sign or without
abbrev pub is_alone : Parts → Bool
is_alone (Leaf text) = is_numeral text
is_alone _ = false

abbrev pub is_constant : Parts → Bool
is_constant (Opposite rest) = is_alone (parts_of rest)
is_constant (Same rest) = is_alone (parts_of rest)
is_constant (Leaf text) = is_numeral text
is_constant _ = false

-- a text with its value in its place: a numeral stays as it is, and so does what has no value
abbrev pub numeral_or : List ℕ → Result Fraction ValueFault → List ℕ
numeral_or text (Ok f) = numeral f
numeral_or text (Err fault) = text

abbrev pub computed : Valuation → List ℕ → List ℕ
computed said text = if is_constant (parts_of text) then text else numeral_or text (value_of said text)

-- letters as a literal, in which an apostrophe is doubled
abbrev pub doubled : List ℕ → List ℕ
doubled [] = []
doubled (c ∷ cs) = if c == 39 then 39 ∷ (39 ∷ doubled cs) else c ∷ doubled cs

abbrev pub literal_of : List ℕ → List ℕ
literal_of text = 39 ∷ (doubled text ++ (39 ∷ []))

-- a value as a text
abbrev pub written : Value → List ℕ
written (Number f) = numeral f
written (Letters text) = literal_of text
