use Rattle.std.proofs.Common.{◌≡◌, ◌-◌, ◌∙◌, arith}
use Rattle.program_review.proofs.ArgumentLemmas.{last_apostrophe-is}
use Rattle.program_review.proofs.arguments.last_apostrophe.Goals as goal

pub returns-then-text-end-eq39-clause-place : goal.returns-then-text-end-eq39-clause-place
returns-then-text-end-eq39-clause-place c =
    last_apostrophe-is c.args.text.now c.loop-end.end c.loop-end.invariant.within c.loop-end.invariant.none (λ h. c.if-text-end-eq39.true)

pub returns-clause-place : goal.returns-clause-place
returns-clause-place c =
    let z : 0 ≡ c.loop-end.end - 1 = omega (arith, c.loop-end-test.false) in
    z ∙ last_apostrophe-is c.args.text.now c.loop-end.end c.loop-end.invariant.within c.loop-end.invariant.none
    (λ h. absurd (omega (arith, h, c.loop-end-test.false)))
