use Rattle.program_flow.proofs.numbers.+multiplied.Given as goal

abbrev pub decreases-multiplied : goal.decreases-multiplied
decreases-multiplied l = l.times
