use Rattle.link_world.proofs.ServerPumps.{ServerLinesRead}
use Rattle.link_world.proofs.connections.server_pump.read_lines.Given as goal

abbrev pub invariant-loop-budget : goal.invariant-loop-budget
invariant-loop-budget l = ServerLinesRead l.initial.server l.server l.initial.budget.left l.budget.left

abbrev pub decreases-loop-budget : goal.decreases-loop-budget
decreases-loop-budget l = l.budget.left
