use Rattle.deviations.proofs.LimitNames.{◌≡◌, common_range, length}
use Rattle.deviations.proofs.limits.common_range.Given as goal

abbrev pub invariant-loop-left : goal.invariant-loop-left
invariant-loop-left l = common_range l.left ≡ common_range l.fn.limits

abbrev pub decreases-loop-left : goal.decreases-loop-left
decreases-loop-left l = length l.left
