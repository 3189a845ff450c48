use Rattle.std.proofs.Common.{◌≡◌, ◌∙◌, sym, true≢false}
use Rattle.effects.specs.Naming.{Disturbs, seen_of}
use Rattle.effects.proofs.Comparing.{clear_later, met_here, met_later}
use Rattle.effects.proofs.called.met.Goals as goal

pub returns-then-disturbs-clause-some : goal.returns-then-disturbs-clause-some
returns-then-disturbs-clause-some c = met_here c.args.is_kept c.args.written.now c.args.called.now c.loop-at.at c.index-called-at.result
    (seen_of c.args.other.now) c.loop-at-test.true c.index-called-at.is (c.disturbs.ensures.0 c.if-disturbs.true) c.loop-at.invariant.1

pub loop-at-preserved : goal.loop-at-preserved
loop-at-preserved c =
    let clear : Disturbs c.args.is_kept c.args.written.now (seen_of c.index-called-at.result) (seen_of c.args.other.now) → ⊥ =
    λ d. true≢false (sym (c.disturbs.ensures.1 d) ∙ c.if-disturbs.false) in (
      clear_later c.args.is_kept c.args.written.now c.args.called.now c.loop-at.at c.index-called-at.result (seen_of c.args.other.now)
          c.loop-at-test.true c.index-called-at.is clear c.loop-at.invariant.0,
      met_later c.args.is_kept c.args.written.now c.args.called.now c.loop-at.at c.index-called-at.result (seen_of c.args.other.now)
          c.loop-at-test.true c.index-called-at.is clear c.loop-at.invariant.1,
    )
