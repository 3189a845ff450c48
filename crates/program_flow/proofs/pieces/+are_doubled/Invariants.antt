use Rattle.std.proofs.Common.{length}
use Rattle.program_flow.proofs.pieces.+are_doubled.Given as goal

abbrev pub decreases-are_doubled : goal.decreases-are_doubled
decreases-are_doubled l = length l.text.now
