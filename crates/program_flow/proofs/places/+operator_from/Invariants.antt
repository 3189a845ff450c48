use Rattle.std.proofs.Common.{length}
use Rattle.program_flow.proofs.places.+operator_from.Given as goal

abbrev pub decreases-operator_from : goal.decreases-operator_from
decreases-operator_from l = length l.text.now
