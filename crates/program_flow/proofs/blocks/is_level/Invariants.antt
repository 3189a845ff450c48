use Rattle.std.proofs.Common.{◌≡◌, ◌≤◌, ◌+◌, length}
use Rattle.program_flow.specs.Blocks.{is_level}
use Rattle.program_flow.proofs.blocks.is_level.Given as goal

abbrev pub invariant-loop-rest : goal.invariant-loop-rest
invariant-loop-rest l = (is_level l.open l.rest ≡ is_level l.depth l.statements) × (l.open + length l.rest ≤ l.depth + length l.statements)

abbrev pub decreases-loop-rest : goal.decreases-loop-rest
decreases-loop-rest l = length l.rest
