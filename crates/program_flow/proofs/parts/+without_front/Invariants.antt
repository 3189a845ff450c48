use Rattle.std.proofs.Common.{length}
use Rattle.program_flow.proofs.parts.+without_front.Given as goal

abbrev pub decreases-without_front : goal.decreases-without_front
decreases-without_front l = length l.text.now
