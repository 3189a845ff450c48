use Rattle.std.proofs.Common.{◌≡◌, length}
use Rattle.program_flow.specs.Blocks.{around}
use Rattle.program_flow.proofs.blocks.around.Given as goal

abbrev pub invariant-loop-rest : goal.invariant-loop-rest
invariant-loop-rest l = around l.place l.rest ≡ around l.place l.blocks

abbrev pub decreases-loop-rest : goal.decreases-loop-rest
decreases-loop-rest l = length l.rest
