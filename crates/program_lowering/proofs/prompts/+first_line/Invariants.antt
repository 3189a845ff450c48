use Rattle.program_lowering.proofs.Names.{length}
use Rattle.program_lowering.proofs.prompts.+first_line.Given as goal

abbrev pub decreases-first_line : goal.decreases-first_line
decreases-first_line l = length l.answers.now
