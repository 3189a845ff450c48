use Rattle.std.proofs.Common.{length}
use Rattle.program_review.proofs.records.completed_lines.Given as goal

abbrev pub decreases-loop-line : goal.decreases-loop-line
decreases-loop-line l = length l.rest
