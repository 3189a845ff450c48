use Rattle.std.proofs.Common.{◌≡◌, ◌≤◌, ◌+◌, length}
use Rattle.program_flow.specs.Blocks.{end_of}
use Rattle.program_flow.proofs.blocks.end_of.Given as goal

abbrev pub invariant-loop-rest : goal.invariant-loop-rest
invariant-loop-rest l = (end_of l.begun l.open l.at l.rest ≡ end_of l.begun l.depth l.place l.statements)
    × (l.open + length l.rest ≤ l.depth + length l.statements) × (l.at + length l.rest ≡ l.place + length l.statements)

abbrev pub decreases-loop-rest : goal.decreases-loop-rest
decreases-loop-rest l = length l.rest
