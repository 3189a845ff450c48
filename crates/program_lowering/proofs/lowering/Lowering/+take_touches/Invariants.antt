use Rattle.program_lowering.proofs.Names.{length}
use Rattle.program_lowering.proofs.lowering.Lowering.+take_touches.Given as goal

abbrev pub decreases-take_touches : goal.decreases-take_touches
decreases-take_touches l = length l.touches.now
