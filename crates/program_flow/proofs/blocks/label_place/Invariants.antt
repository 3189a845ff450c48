use Rattle.std.proofs.Common.{◌≡◌, ◌+◌, length}
use Rattle.program_flow.specs.Blocks.{label_place}
use Rattle.program_flow.proofs.blocks.label_place.Given as goal

abbrev pub invariant-loop-rest : goal.invariant-loop-rest
invariant-loop-rest l = (label_place l.name l.at l.rest ≡ label_place l.name l.place l.statements)
    × (l.at + length l.rest ≡ l.place + length l.statements)

abbrev pub decreases-loop-rest : goal.decreases-loop-rest
decreases-loop-rest l = length l.rest
