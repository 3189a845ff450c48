-- The computing functions meet the relations.
use Rattle.fixed_um.proofs.Names.{◌%◌, ◌*◌, ◌+◌, ◌/◌, ◌<◌, ◌==◌, ◌^◌, ◌↔◌, ◌≡◌, ◌≤◌, and_from, and_parts, arith, Bool, both_ways, cond, digits_value}
use Rattle.fixed_um.proofs.Names.{eq-eqb, eqb-true, Err, false, IsNumeral, IsTrue, IsZero, le-leb, leb-false, leb-true, length, List, nat_le, None}
use Rattle.fixed_um.proofs.Names.{Numeral, numeral_of, NumeralFault, Ok, one-le-pow, Option, Reads, refl, Result, RoundsUp, signed, Some, StandsFor}
use Rattle.fixed_um.proofs.Names.{subst, TooLarge, TooManyDigits, true, ℕ, ℤ}
use Rattle.fixed_um.specs.Computed.{is_zero_numeral, is_zero_text, magnitude_of, numeral_value, rounded, value_of, value_within}
use Rattle.fixed_um.proofs.RoundingLemmas.{abs-signed}
use Rattle.fixed_um.proofs.GrammarLemmas.{numeral_found, numeral_only}
use Rattle.fixed_um.proofs.ReadLemmas.{stands, one_reading, the_one}

rounded_rounds : (a b : ℕ) → 0 < b → RoundsUp a b (rounded a b)
rounded_rounds a b some =
    let d : 2 * b * ((2 * a + b) / (2 * b)) + (2 * a + b) % (2 * b) ≡ 2 * a + b = omega arith in
    let r : (2 * a + b) % (2 * b) < 2 * b = omega arith in
    record { below = omega (arith, d, r); above = omega (arith, d) }

magnitude_stands : (scale : ℕ) (text : List ℕ) (n : Numeral) → IsNumeral text n → length n.digits ≤ 30
    → StandsFor scale text (signed n.negative (magnitude_of scale n))
magnitude_stands scale text n spelled short =
    stands scale text n (digits_value 10 n.digits) (magnitude_of scale n) spelled short refl
    (rounded_rounds (digits_value 10 n.digits * 10 ^ (scale + n.raised)) (10 ^ (n.places + n.lowered))
    (omega (arith, one-le-pow (n.places + n.lowered) 10 (omega arith))))

value_reads : (scale limit : ℕ) (text : List ℕ) (n : Numeral) (m : ℕ) (b : Bool) → nat_le m limit ≡ b
    → StandsFor scale text (signed n.negative m) → Reads scale limit text (cond b (Ok (signed n.negative m)) (Err TooLarge))
value_reads scale limit text n m true e h = (h, rw (abs-signed n.negative m) (leb-true m limit e))
value_reads scale limit text n m false e h = (signed n.negative m, h, rw (abs-signed n.negative m) (leb-false m limit e))

short_reads : (scale limit : ℕ) (text : List ℕ) (n : Numeral) (b : Bool) → nat_le (length n.digits) 30 ≡ b → IsNumeral text n
    → Reads scale limit text (cond b (value_within limit n.negative (magnitude_of scale n)) (Err TooManyDigits))
short_reads scale limit text n true e h = value_reads scale limit text n (magnitude_of scale n) (nat_le (magnitude_of scale n) limit) refl
    (magnitude_stands scale text n h (leb-true _ _ e))
short_reads scale limit text n false e h = (n, h, leb-false (length n.digits) 30 e)

numeral_reads : (scale limit : ℕ) (text : List ℕ) (o : Option Numeral) → numeral_of text ≡ o
    → Reads scale limit text (numeral_value scale limit o)
numeral_reads scale limit text None e = λ n h. let found = numeral_only text n h in absurd cc
numeral_reads scale limit text (Some n) e = short_reads scale limit text n (nat_le (length n.digits) 30) refl (numeral_found text n e)

-- a text is read as its computed value
pub value_of-reads : (scale limit : ℕ) (text : List ℕ) → Reads scale limit text (value_of scale limit text)
value_of-reads scale limit text = numeral_reads scale limit text (numeral_of text) refl

pub value_of-is : (scale limit : ℕ) (text : List ℕ) (x : Result ℤ NumeralFault) → Reads scale limit text x → value_of scale limit text ≡ x
value_of-is scale limit text x h = one_reading scale limit text (value_of scale limit text) x (value_of-reads scale limit text) h

zero_numeral : (text : List ℕ) (o : Option Numeral) → numeral_of text ≡ o → (IsTrue (is_zero_numeral o) ↔ IsZero text)
zero_numeral text None e = (λ t. absurd (both_ways false refl t), λ z. let found = numeral_only text z.0 z.1 in absurd cc)
zero_numeral text (Some n) e = (
  λ t. let p = and_parts (nat_le (length n.digits) 30) (digits_value 10 n.digits == 0) t
      in (n, numeral_found text n e, leb-true _ _ p.0, eqb-true _ _ p.1),
  λ z. let same = the_one text n z.0 e z.1 in and_from _ _ (le-leb _ _ (subst (λ (m : Numeral). length m.digits ≤ 30) same z.2))
      (eq-eqb _ _ (subst (λ (m : Numeral). digits_value 10 m.digits ≡ 0) same z.3)),
)

pub is_zero_text-is : (text : List ℕ) → (IsTrue (is_zero_text text) ↔ IsZero text)
is_zero_text-is text = zero_numeral text (numeral_of text) refl
