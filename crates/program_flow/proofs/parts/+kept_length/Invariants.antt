use Rattle.std.proofs.Common.{length}
use Rattle.program_flow.proofs.parts.+kept_length.Given as goal

abbrev pub decreases-kept_length : goal.decreases-kept_length
decreases-kept_length l = length l.text.now
