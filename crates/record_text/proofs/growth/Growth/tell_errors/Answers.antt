use Rattle.std.proofs.Common.{rules}
use Rattle.record_text.proofs.GrowthLemmas.{added}
use Rattle.record_text.proofs.growth.Growth.tell_errors.Goals as goal

pub loop-error-preserved : goal.loop-error-preserved
loop-error-preserved c = (
  added (λ e. e.items) _ _ c.args.errors.now c.loop-error.error-index c.error-item.result _ _ _ _ c.in_ok-write_refused.ensures.0
      c.as_slice.ensures.value c.loop-error.invariant.0 (search rules) c.loop-error-test.true c.error-item.is,
  c.loop-error.invariant.1,
  c.loop-error.invariant.2,
)
