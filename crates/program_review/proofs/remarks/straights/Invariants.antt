use Rattle.std.proofs.Common.{◌≡◌, ◌+◌, ◌≤◌, length}
use Rattle.program_review.specs.Remarks.{straights}
use Rattle.program_review.proofs.remarks.straights.Given as goal

abbrev pub invariant-loop-left : goal.invariant-loop-left
invariant-loop-left l = (l.count + straights l.left ≡ straights l.later) × (l.count + length l.left ≤ length l.later)

abbrev pub decreases-loop-left : goal.decreases-loop-left
decreases-loop-left l = length l.left
