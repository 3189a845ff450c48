use Rattle.program_flow.proofs.angles.+series.Given as goal

abbrev pub decreases-series : goal.decreases-series
decreases-series l = l.terms
