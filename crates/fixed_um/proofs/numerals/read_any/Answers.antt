use Rattle.fixed_um.proofs.Names.{◌∙◌, ◌≤◌, cases_lt, FitsSigned, iff_false, inl, inr, length, rules, signed, StandsFor, subst, sym, the_numeral}
use Rattle.fixed_um.proofs.Names.{to_z-of_z, unsigned_abs, w64, ℤ}
use Rattle.fixed_um.proofs.GrammarLemmas.{numeral_only, numeral_found}
use Rattle.fixed_um.proofs.ReadLemmas.{stands}
use Rattle.fixed_um.proofs.RoundingLemmas.{abs-signed}
use Rattle.fixed_um.proofs.numerals.read_any.Goals as goal

pub returns-in_default : goal.returns-in_default
returns-in_default c n h =
    let found = numeral_only c.args.bytes.now n h in
    let is = c.in_default.ensures.parts in
    absurd cc

pub returns-then-not-is_short : goal.returns-then-not-is_short
returns-then-not-is_short c =
    let found = numeral_found c.args.bytes.now (the_numeral c.in-Some.parts) (sym c.in-Some.ensures.parts) in (
      the_numeral c.in-Some.parts,
      found,
      elim (cases_lt 30 (length (the_numeral c.in-Some.parts).digits)) [
        | inl many ↦ many
        | inr few ↦ absurd (iff_false c.is_short.ensures c.if-not-is_short.true few)
      ],
    )

pub returns-in-Some-magnitude : goal.returns-in-Some-magnitude
returns-in-Some-magnitude c =
    let n = the_numeral c.in-Some.parts in
    let found = numeral_found c.args.bytes.now n (sym c.in-Some.ensures.parts) in
    let short : length n.digits ≤ 30 = search rules in
    let value = stands c.args.scale c.args.bytes.now n c.digits_value.result c.in-Some-magnitude.magnitude found short
    c.digits_value.ensures.value c.in-Some-magnitude.ensures.within.1 in
    let fits : FitsSigned w64 c.with_sign.result = search rules in
    let same = to_z-of_z w64 c.with_sign.result fits ∙ c.with_sign.ensures in
    subst (λ (z : ℤ). StandsFor c.args.scale c.args.bytes.now z
    × (unsigned_abs z ≤ c.args.limit)) (sym same) (
      value,
      rw (abs-signed n.negative c.in-Some-magnitude.magnitude)
          c.in-Some-magnitude.ensures.within.0,
    )

pub returns-in-None : goal.returns-in-None
returns-in-None c =
    let n = the_numeral c.in-Some.parts in
    let found = numeral_found c.args.bytes.now n (sym c.in-Some.ensures.parts) in
    let past = c.in-None.ensures.past in
    let short : length n.digits ≤ 30 = search rules in (
      signed n.negative past.0,
      stands c.args.scale c.args.bytes.now n c.digits_value.result past.0 found short c.digits_value.ensures.value
          past.1,
      rw (abs-signed n.negative past.0) past.2,
    )
