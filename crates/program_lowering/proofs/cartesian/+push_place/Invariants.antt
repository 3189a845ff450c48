use Rattle.program_lowering.proofs.Names.{length}
use Rattle.program_lowering.proofs.cartesian.+push_place.Given as goal

abbrev pub decreases-push_place : goal.decreases-push_place
decreases-push_place l = length l.numbers.now
