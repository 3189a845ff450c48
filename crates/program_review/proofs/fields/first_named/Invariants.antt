use Rattle.std.proofs.Common.{length}
use Rattle.program_review.proofs.fields.first_named.Given as goal

abbrev pub decreases-loop-line : goal.decreases-loop-line
decreases-loop-line l = length l.rest
