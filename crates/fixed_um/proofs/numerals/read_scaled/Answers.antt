use Rattle.fixed_um.proofs.Names.{◌∙◌, ◌≤◌, FitsSigned, rules, signed, StandsFor, subst, sym, to_z-of_z, unsigned_abs, w64, ℤ}
use Rattle.fixed_um.proofs.PlainLemmas.{plain_stands}
use Rattle.fixed_um.proofs.RoundingLemmas.{abs-signed}
use Rattle.fixed_um.proofs.numerals.read_scaled.Goals as goal

pub returns-in-Some-plain_magnitude : goal.returns-in-Some-plain_magnitude
returns-in-Some-plain_magnitude c =
    let plain = c.in-Some.plain in
    let found = c.in-Some-plain_magnitude.ensures.within in
    let m = c.in-Some-plain_magnitude.magnitude in
    let fits : FitsSigned w64 c.with_sign.result = search rules in
    let same = to_z-of_z w64 c.with_sign.result fits ∙ c.with_sign.ensures in
    subst (λ (z : ℤ). StandsFor c.args.scale c.args.bytes.now z × (unsigned_abs z ≤ c.args.limit)) (sym same) (
      plain_stands c.args.scale c.args.bytes.now plain m c.in-Some.ensures found.1,
      rw (abs-signed plain.negative m) found.0,
    )

pub returns-in-None : goal.returns-in-None
returns-in-None c =
    let plain = c.in-Some.plain in
    let past = c.in-None.ensures.past in (
      signed plain.negative past.0,
      plain_stands c.args.scale c.args.bytes.now plain past.0 c.in-Some.ensures past.1,
      rw (abs-signed plain.negative past.0) past.2,
    )
