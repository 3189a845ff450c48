use Rattle.std.proofs.Common.{ℕ, ◌<◌, ◌+◌}
use Rattle.std.specs.Int.{IsGcd}
use Rattle.program_flow.proofs.numbers.gcd.Given as goal

abbrev pub invariant-loop-y : goal.invariant-loop-y
invariant-loop-y l = ((g : ℕ) → IsGcd l.x l.y g → IsGcd l.fn.a l.fn.b g) × (0 < l.x + l.y)

abbrev pub decreases-loop-y : goal.decreases-loop-y
decreases-loop-y l = l.y
