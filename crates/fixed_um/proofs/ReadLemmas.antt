-- A text is read in one way.
use Rattle.fixed_um.proofs.Names.{◌*◌, ◌+◌, ◌<◌, ◌==◌, ◌^◌, ◌↔◌, ◌∙◌, ◌≡◌, ◌≤◌, ap, arith, Bool, both_ways, denominator, digits_value, eq-eqb}
use Rattle.fixed_um.proofs.Names.{eqb-true, Err, false, IsNumeral, IsRounded, IsTrue, IsZero, length, List, None, NotNumeral, Numeral, numeral_of}
use Rattle.fixed_um.proofs.Names.{NumeralFault, numerator, Ok, one-le-pow, Reads, refl, Result, RoundsUp, same_Some, signed, Some, StandsFor, subst}
use Rattle.fixed_um.proofs.Names.{sym, TooLarge, TooManyDigits, unsigned_abs, ℕ, ℤ}
use Rattle.fixed_um.proofs.GrammarLemmas.{one_numeral, numeral_only, numeral_found}
use Rattle.fixed_um.proofs.RoundingLemmas.{one_rounded, rounded_signed}

-- a text stands for one number
pub one_value : (scale : ℕ) (text : List ℕ) (r s : ℤ) → StandsFor scale text r → StandsFor scale text s → r ≡ s
one_value scale text r s f g =
    let same = one_numeral text g.numeral f.numeral g.spelled f.spelled in
    let value = subst (λ (n : Numeral). IsRounded (numerator scale n) (denominator n) s) same g.value in
    one_rounded (numerator scale f.numeral) (denominator f.numeral) r s
    (omega (arith, one-le-pow (f.numeral.places + f.numeral.lowered) 10 (omega arith))) f.value value

-- a text of more than 30 digits stands for no number
too_many : (scale : ℕ) (text : List ℕ) (r : ℤ) (n : Numeral) → StandsFor scale text r → IsNumeral text n → 30 < length n.digits → ⊥
too_many scale text r n f h many =
    let same = ap (λ (m : Numeral). length m.digits) (one_numeral text n f.numeral h f.spelled) in
    omega (arith, same, f.short, many)

pub one_reading : (scale limit : ℕ) (text : List ℕ) (x y : Result ℤ NumeralFault) → Reads scale limit text x → Reads scale limit text y
    → x ≡ y
one_reading scale limit text (Ok r) (Ok s) f g = ap (λ (z : ℤ). Ok z) (one_value scale text r s f.0 g.0)
one_reading scale limit text (Ok r) (Err NotNumeral) f g = absurd (g f.0.numeral f.0.spelled)
one_reading scale limit text (Ok r) (Err TooManyDigits) f g = absurd (too_many scale text r g.0 f.0 g.1 g.2)
one_reading scale limit text (Ok r) (Err TooLarge) f g =
    let same = ap (λ (z : ℤ). unsigned_abs z) (one_value scale text r g.0 f.0 g.1) in
    absurd (omega (arith, same, f.1, g.2))
one_reading scale limit text (Err NotNumeral) (Ok s) f g = absurd (f g.0.numeral g.0.spelled)
one_reading scale limit text (Err NotNumeral) (Err NotNumeral) f g = refl
one_reading scale limit text (Err NotNumeral) (Err TooManyDigits) f g = absurd (f g.0 g.1)
one_reading scale limit text (Err NotNumeral) (Err TooLarge) f g = absurd (f g.1.numeral g.1.spelled)
one_reading scale limit text (Err TooManyDigits) (Ok s) f g = absurd (too_many scale text s f.0 g.0 f.1 f.2)
one_reading scale limit text (Err TooManyDigits) (Err NotNumeral) f g = absurd (g f.0 f.1)
one_reading scale limit text (Err TooManyDigits) (Err TooManyDigits) f g = refl
one_reading scale limit text (Err TooManyDigits) (Err TooLarge) f g = absurd (too_many scale text g.0 f.0 g.1 f.1 f.2)
one_reading scale limit text (Err TooLarge) (Ok s) f g =
    let same = ap (λ (z : ℤ). unsigned_abs z) (one_value scale text f.0 s f.1 g.0) in
    absurd (omega (arith, same, f.2, g.1))
one_reading scale limit text (Err TooLarge) (Err NotNumeral) f g = absurd (g f.1.numeral f.1.spelled)
one_reading scale limit text (Err TooLarge) (Err TooManyDigits) f g = absurd (too_many scale text f.0 g.0 f.1 g.1 g.2)
one_reading scale limit text (Err TooLarge) (Err TooLarge) f g = refl

-- a numeral that was found, with its rounded magnitude, stands for the magnitude with its sign
pub stands : (scale : ℕ) (text : List ℕ) (n : Numeral) (value m : ℕ) → IsNumeral text n → length n.digits ≤ 30
    → value ≡ digits_value 10 n.digits → RoundsUp (value * 10 ^ (scale + n.raised)) (10 ^ (n.places + n.lowered)) m
    → StandsFor scale text (signed n.negative m)
stands scale text n value m spelled short is h =
    record {
      numeral = n;
      spelled = spelled;
      short = short;
      value = subst
          (λ (v : ℕ). IsRounded (signed n.negative (v * 10 ^ (scale + n.raised))) (denominator n) (signed n.negative m)) is
          (rounded_signed n.negative (value * 10 ^ (scale + n.raised)) (10 ^ (n.places + n.lowered)) m h);
    }

-- ---- zeros

-- the numeral of a text is the only one there
pub the_one : (text : List ℕ) (n m : Numeral) → numeral_of text ≡ Some n → IsNumeral text m → m ≡ n
the_one text n m found h = same_Some m n (sym (numeral_only text m h) ∙ found)

pub zero_here : (text : List ℕ) (n : Numeral) (value : ℕ) → numeral_of text ≡ Some n → length n.digits ≤ 30
    → value ≡ digits_value 10 n.digits → (IsTrue (value == 0) ↔ IsZero text)
zero_here text n value found short is = (
  λ t. (n, numeral_found text n found, short, sym is ∙ eqb-true value 0 t),
  λ z. eq-eqb value 0 (is ∙ ap (λ (m : Numeral). digits_value 10 m.digits) (sym (the_one text n z.0 found z.1)) ∙ z.3),
)

pub zero_long : (text : List ℕ) (n : Numeral) (b : Bool) → numeral_of text ≡ Some n → (IsTrue b ↔ (length n.digits ≤ 30)) → b ≡ false
    → (IsTrue b ↔ IsZero text)
zero_long text n b found short is = (
  λ t. absurd (both_ways b is t),
  λ z. short.1 (let same = ap (λ (m : Numeral). length m.digits) (the_one text n z.0 found z.1) in omega (arith, same, z.2)),
)

pub zero_none : (text : List ℕ) → numeral_of text ≡ None → (IsTrue false ↔ IsZero text)
zero_none text none = (
  λ t. absurd (both_ways false refl t),
  λ z. let found = numeral_only text z.0 z.1 in absurd cc,
)
