-- What numerals that were taken apart say: the slices of any, and the word of a plain one.
use Rattle.std.specs.Prelude.{◌≡◌, ℕ, ◌≤◌, List, ◌++◌, length, Some}
use Rattle.std.specs.Str.Parse.{digits_value}
use Rattle.fixed_um.specs.Numerals.{Numeral}
use Rattle.fixed_um.specs.Scan.{numeral_of}
use Rattle.fixed_um.specs.declared.plain.Plain.{Plain}
use Rattle.fixed_um.specs.declared.scanning.Parts.{Parts}

abbrev pub the_numeral : Parts → Numeral
the_numeral p = record {
  negative = p.negative;
  digits = p.whole.now ++ p.fraction.now;
  places = length p.fraction.now;
  raised = p.raised;
  lowered = p.lowered;
}

-- a text is a numeral of at most 19 digits without exponent, and says this
pub record IsPlain (text : List ℕ) (p : Plain) : Type 0 where
  pub numeral : Numeral
  pub found : numeral_of text ≡ Some numeral
  pub short : length numeral.digits ≤ 19
  pub negative_is : numeral.negative ≡ p.negative
  pub value_is : digits_value 10 numeral.digits ≡ p.digits
  pub places_are : numeral.places ≡ p.places
  pub few_places : p.places ≤ 18
  pub not_raised : numeral.raised ≡ 0
  pub not_lowered : numeral.lowered ≡ 0
