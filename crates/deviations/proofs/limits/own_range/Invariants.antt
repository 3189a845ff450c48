use Rattle.deviations.proofs.LimitNames.{◌≡◌, own_range, length}
use Rattle.deviations.proofs.limits.own_range.Given as goal

abbrev pub invariant-loop-left : goal.invariant-loop-left
invariant-loop-left l = own_range l.left l.label ≡ own_range l.fn.limits l.label

abbrev pub decreases-loop-left : goal.decreases-loop-left
decreases-loop-left l = length l.left
