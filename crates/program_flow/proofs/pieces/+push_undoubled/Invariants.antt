use Rattle.std.proofs.Common.{length}
use Rattle.program_flow.proofs.pieces.+push_undoubled.Given as goal

abbrev pub decreases-push_undoubled : goal.decreases-push_undoubled
decreases-push_undoubled l = length l.text.now
