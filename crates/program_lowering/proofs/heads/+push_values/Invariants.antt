use Rattle.program_lowering.proofs.Names.{length}
use Rattle.program_lowering.proofs.heads.+push_values.Given as goal

abbrev pub decreases-push_values : goal.decreases-push_values
decreases-push_values l = length l.answers.now
