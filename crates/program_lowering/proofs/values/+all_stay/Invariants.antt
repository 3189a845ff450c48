use Rattle.program_lowering.proofs.Names.{length}
use Rattle.program_lowering.proofs.values.+all_stay.Given as goal

abbrev pub decreases-all_stay : goal.decreases-all_stay
decreases-all_stay l = length l.params.now
