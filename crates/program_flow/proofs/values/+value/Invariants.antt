use Rattle.std.proofs.Common.{◌+◌, ◌*◌}
use Rattle.program_flow.proofs.values.+value.Given as goal

abbrev pub decreases-parts_value : goal.decreases-parts_value
decreases-parts_value l = 2 * l.below + 1

abbrev pub decreases-value_within : goal.decreases-value_within
decreases-value_within l = 2 * l.levels
