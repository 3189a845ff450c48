use Rattle.link_world.proofs.Names.{◌≡◌, false, Makes, None, staged, true}
use Rattle.link_world.proofs.RoundLists.{SoMany}
use Rattle.link_world.proofs.worlds.world.World.quiet.Given as goal

abbrev pub invariant-loop-round : goal.invariant-loop-round
invariant-loop-round g l =
    (Makes (SoMany (g.M.Machine.answers l.fn.machine) true l._round) false None (staged l.fn.self l.fn.trace) (staged l.self l.trace))
    × (g.M.Machine.answers l.machine ≡ g.M.Machine.answers l.fn.machine)
