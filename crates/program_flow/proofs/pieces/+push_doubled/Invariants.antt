use Rattle.std.proofs.Common.{length}
use Rattle.program_flow.proofs.pieces.+push_doubled.Given as goal

abbrev pub decreases-push_doubled : goal.decreases-push_doubled
decreases-push_doubled l = length l.text.now
