use Rattle.std.proofs.Common.{◌+◌, ◌*◌}
use Rattle.program_flow.proofs.texts.+expanded.Given as goal

abbrev pub decreases-push_named : goal.decreases-push_named
decreases-push_named l = 2 * l.names + 1

abbrev pub decreases-push_expanded : goal.decreases-push_expanded
decreases-push_expanded l = 2 * l.names
