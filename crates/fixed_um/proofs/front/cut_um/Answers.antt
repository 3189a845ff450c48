use Rattle.fixed_um.proofs.Names.{◌∙◌, BeginsWithLength, FitsSigned, rules, subst, sym, to_z-of_z, unsigned_abs, w64, ℤ}
use Rattle.fixed_um.proofs.FrontLemmas.{length_in_front}
use Rattle.fixed_um.proofs.front.cut_um.Goals as goal

pub returns : goal.returns
returns c =
    let fits : FitsSigned w64 c.with_sign.result = search rules in
    let same = to_z-of_z w64 c.with_sign.result fits ∙ c.with_sign.ensures in
    subst (λ (z : ℤ). BeginsWithLength (unsigned_abs c.args.limit) c.args.text.now c.in_ok-decimals.rest.now z) (sym same)
    (length_in_front _ c.args.text.now c.cut_minus-negative.result.1.now c.cut_whole-whole.result.1.now c.in_ok-decimals.rest.now
    c.cut_minus-negative.result.0 c.cut_whole-whole.result.0 c.in_ok-decimals.decimals c.cut_minus-negative.ensures
    c.cut_whole-whole.ensures c.in_ok-decimals.ensures (search rules))
