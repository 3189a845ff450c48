use Rattle.link_world.proofs.ClientPumps.{LinesRead}
use Rattle.link_world.proofs.connections.client_pump.read_lines.Given as goal

abbrev pub invariant-loop-budget : goal.invariant-loop-budget
invariant-loop-budget l = LinesRead l.initial.client l.client l.initial.budget.left l.budget.left

abbrev pub decreases-loop-budget : goal.decreases-loop-budget
decreases-loop-budget l = l.budget.left
