use Rattle.link_world.proofs.Names.{false, Makes, Some, staged}
use Rattle.link_world.proofs.EventsLeft.{left_of}
use Rattle.link_world.proofs.EventLists.{Going}
use Rattle.link_world.proofs.worlds.world.World.repeat.Given as goal

abbrev pub invariant-loop-busy : goal.invariant-loop-busy
invariant-loop-busy l = Makes (Going l.event) false (Some l.busy) (staged l.fn.self l.fn.trace) (staged l.self l.trace)

abbrev pub decreases-loop-busy : goal.decreases-loop-busy
decreases-loop-busy l = left_of l.event l.self.world
