use Rattle.std.proofs.Common.{length}
use Rattle.program_review.proofs.walking.Walk.reach.Given as goal

abbrev pub decreases-loop-left : goal.decreases-loop-left
decreases-loop-left l = length l.left
