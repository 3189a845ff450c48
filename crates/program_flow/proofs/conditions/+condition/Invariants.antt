use Rattle.std.proofs.Common.{◌+◌, ◌*◌}
use Rattle.program_flow.proofs.conditions.+condition.Given as goal

abbrev pub decreases-parts_hold : goal.decreases-parts_hold
decreases-parts_hold l = 2 * l.below + 1

abbrev pub decreases-holds_within : goal.decreases-holds_within
decreases-holds_within l = 2 * l.levels
