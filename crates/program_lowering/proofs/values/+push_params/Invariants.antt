use Rattle.program_lowering.proofs.Names.{length}
use Rattle.program_lowering.proofs.values.+push_params.Given as goal

abbrev pub decreases-push_params : goal.decreases-push_params
decreases-push_params l = length l.params.now
