use Rattle.std.proofs.Common.{length}
use Rattle.program_flow.proofs.variables.Variables.+declare_all.Given as goal

abbrev pub decreases-declare_all : goal.decreases-declare_all
decreases-declare_all l = length l.names.now
