use Rattle.link_world.proofs.Names.{◌+◌, ◌≡◌, ◌≤◌, ServerGoesOn, steps_of, Working}
use Rattle.link_world.proofs.connections.server_pump.work.Given as goal

abbrev pub invariant-loop-budget : goal.invariant-loop-budget
invariant-loop-budget g l =
    ServerGoesOn (g.M.Machine.answers l.initial.machine) Working l.initial.budget.left l.budget.left l.initial.server l.server
    × (g.M.Machine.answers l.machine ≡ g.M.Machine.answers l.initial.machine)
    × (l.initial.budget.left + steps_of l.server.end.server ≤ l.budget.left + steps_of l.initial.server.end.server)
    × (steps_of l.initial.server.end.server ≤ 129)

abbrev pub decreases-loop-budget : goal.decreases-loop-budget
decreases-loop-budget g l = l.budget.left
