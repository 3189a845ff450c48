-- What a numeral says, and the whole number of micrometres or millionths that it stands for (this profile, for ISO 22093 and I++ DME
-- alike).
use Rattle.std.specs.Prelude.{◌≡◌, ℕ, ◌+◌, ◌*◌, ◌^◌, ◌<◌, ◌≤◌, Bool, true, false, ◌⊎◌, List, [], ◌++◌, length, ℤ, pos, ◌*ℤ◌, ◌-ℤ◌}
use Rattle.std.specs.Prelude.{neg_ℤ, unsigned_abs, codes, Result, Ok, Err, if◌then◌else◌, Option, Some, None}
use Rattle.std.specs.Str.Parse.{digits_value, AllDigits}
use Rattle.fixed_um.specs.Limits.{component_limit}
use Rattle.fixed_um.specs.Shapes.{Direction, IsDirection}
use Rattle.fixed_um.specs.declared.numerals.NumeralFault.{NumeralFault}
use Rattle.fixed_um.specs.declared.numerals.NumeralFault.TheVariants.{NotNumeral, TooManyDigits, TooLarge}

-- what a numeral says: a sign, digits of which the last `places` are after the point, and powers of ten up and down
pub record Numeral : Type 0 where
  pub negative : Bool
  pub digits : List ℕ
  pub places : ℕ
  pub raised : ℕ
  pub lowered : ℕ

-- nothing or a plus, or a minus
pub data IsSign (text : List ℕ) : Bool → Type 0 where
  none : text ≡ [] → IsSign text false
  plus : text ≡ codes "+" → IsSign text false
  minus : text ≡ codes "-" → IsSign text true

-- nothing, or a point and digits, of which there may be none
pub data IsFraction (text : List ℕ) : List ℕ → Type 0 where
  absent : text ≡ [] → IsFraction text []
  pointed : (ds : List ℕ) → AllDigits 10 ds → text ≡ codes "." ++ ds → IsFraction text ds

-- nothing, or E or e, a sign and one to three digits
pub data IsExponent (text : List ℕ) : ℕ → ℕ → Type 0 where
  nothing : text ≡ [] → IsExponent text 0 0
  given : (mark sign ds : List ℕ) (negative : Bool) → (mark ≡ codes "E") ⊎ (mark ≡ codes "e") → IsSign sign negative → AllDigits 10 ds
      → 1 ≤ length ds → length ds ≤ 3 → text ≡ mark ++ (sign ++ ds)
      → IsExponent text (if negative then 0 else digits_value 10 ds) (if negative then digits_value 10 ds else 0)

-- the text is a sign, digits, a fraction and an exponent, with at least one digit before the exponent, and says n
pub record IsNumeral (text : List ℕ) (n : Numeral) : Type 0 where
  pub sign : List ℕ
  pub whole : List ℕ
  pub point : List ℕ
  pub fraction : List ℕ
  pub exponent : List ℕ
  pub parts : text ≡ sign ++ (whole ++ (point ++ exponent))
  pub is_sign : IsSign sign n.negative
  pub is_whole : AllDigits 10 whole
  pub is_fraction : IsFraction point fraction
  pub is_exponent : IsExponent exponent n.raised n.lowered
  pub digits_are : n.digits ≡ whole ++ fraction
  pub places_are : n.places ≡ length fraction
  pub some_digit : 0 < length n.digits

-- with or without a minus
abbrev pub signed : Bool → ℕ → ℤ
signed negative n = if negative then neg_ℤ (pos n) else pos n

-- in units of which 10 ^ scale make one (3: micrometres in a millimetre, 6: millionths) a numeral is numerator / denominator, exactly
abbrev pub numerator : ℕ → Numeral → ℤ
numerator scale n = signed n.negative (digits_value 10 n.digits * 10 ^ (scale + n.raised))

abbrev pub denominator : Numeral → ℕ
denominator n = 10 ^ (n.places + n.lowered)

-- r is the whole number nearest to a / b, and of two the one farther from zero
pub record IsRounded (a : ℤ) (b : ℕ) (r : ℤ) : Type 0 where
  pub near : 2 * unsigned_abs (r *ℤ pos b -ℤ a) ≤ b
  pub half : 2 * unsigned_abs (r *ℤ pos b -ℤ a) ≡ b → unsigned_abs a ≤ unsigned_abs (r *ℤ pos b)

-- the text is a numeral of at most 30 digits, and r is its value in units of which 10 ^ scale make one
pub record StandsFor (scale : ℕ) (text : List ℕ) (r : ℤ) : Type 0 where
  pub numeral : Numeral
  pub spelled : IsNumeral text numeral
  pub short : length numeral.digits ≤ 30
  pub value : IsRounded (numerator scale numeral) (denominator numeral) r

-- reading a text gives its value within the limit, or the fault that is due
abbrev pub Reads : ℕ → ℕ → List ℕ → Result ℤ NumeralFault → Type 0
Reads scale limit text (Ok r) = StandsFor scale text r × (unsigned_abs r ≤ limit)
Reads scale limit text (Err NotNumeral) = (n : Numeral) → IsNumeral text n → ⊥
Reads scale limit text (Err TooManyDigits) = (n : Numeral) × IsNumeral text n × (30 < length n.digits)
Reads scale limit text (Err TooLarge) = (r : ℤ) × StandsFor scale text r × (limit < unsigned_abs r)

-- three texts are the components of a direction, leftmost fault first; none where all round to zero
abbrev pub ReadsDirection : List ℕ → List ℕ → List ℕ → Result (Option Direction) NumeralFault → Type 0
ReadsDirection i j k (Ok (Some d)) = Reads 6 component_limit i (Ok d.i) × Reads 6 component_limit j (Ok d.j)
    × Reads 6 component_limit k (Ok d.k) × IsDirection d
ReadsDirection i j k (Ok None) = Reads 6 component_limit i (Ok (pos 0)) × Reads 6 component_limit j (Ok (pos 0))
    × Reads 6 component_limit k (Ok (pos 0))
ReadsDirection i j k (Err e) = Reads 6 component_limit i (Err e)
    ⊎ (((x : ℤ) × Reads 6 component_limit i (Ok x) × Reads 6 component_limit j (Err e))
    ⊎ ((x y : ℤ) × Reads 6 component_limit i (Ok x) × Reads 6 component_limit j (Ok y) × Reads 6 component_limit k (Err e)))

-- the text is a numeral of at most 30 digits whose digits before the exponent are all 0
abbrev pub IsZero : List ℕ → Type 0
IsZero text = (n : Numeral) × IsNumeral text n × (length n.digits ≤ 30) × (digits_value 10 n.digits ≡ 0)
