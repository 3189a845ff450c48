use Rattle.link_world.proofs.Names.{◌≡◌, false, Makes, Some, staged}
use Rattle.link_world.proofs.ServerWork.{work_left}
use Rattle.link_world.proofs.WorkLists.{Working}
use Rattle.link_world.proofs.worlds.world.World.work.Given as goal

abbrev pub invariant-loop-event : goal.invariant-loop-event
invariant-loop-event g l =
    (Makes (Working (g.M.Machine.answers l.fn.machine)) false (Some l.busy) (staged l.fn.self l.fn.trace) (staged l.self l.trace))
    × (g.M.Machine.answers l.machine ≡ g.M.Machine.answers l.fn.machine)

abbrev pub decreases-loop-event : goal.decreases-loop-event
decreases-loop-event g l = work_left l.self.world
