use Rattle.std.proofs.Common.{length}
use Rattle.program_flow.proofs.conditions.+mark_from.Given as goal

abbrev pub decreases-mark_from : goal.decreases-mark_from
decreases-mark_from l = length l.text.now
