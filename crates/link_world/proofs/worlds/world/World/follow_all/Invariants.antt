use Rattle.link_world.proofs.Names.{◌≡◌, ArePlayed, false, Makes, None, staged, take}
use Rattle.link_world.proofs.worlds.world.World.follow_all.Given as goal

abbrev pub invariant-loop-instruction : goal.invariant-loop-instruction
invariant-loop-instruction g l =
    (Makes (ArePlayed (g.M.Machine.answers l.fn.machine) (take l.instruction-index l.instructions)) false None
    (staged l.fn.self l.fn.trace) (staged l.self l.trace))
    × (g.M.Machine.answers l.machine ≡ g.M.Machine.answers l.fn.machine)
