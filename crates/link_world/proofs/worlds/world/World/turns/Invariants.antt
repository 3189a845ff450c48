use Rattle.link_world.proofs.Names.{[], ◌+◌, ◌≡◌, ◌≤◌, due, false, IsRound, Makes, None, true, unwatched}
use Rattle.link_world.proofs.RoundLists.{SoMany}
use Rattle.link_world.proofs.Unsent.{unsent}
use Rattle.link_world.proofs.worlds.world.World.turns.Given as goal

abbrev pub invariant-loop-self : goal.invariant-loop-self
invariant-loop-self g l =
    (Makes (SoMany (g.M.Machine.answers l.fn.machine) true l.turns) false None (unwatched l.fn.self) (unwatched l.self))
    × (g.M.Machine.answers l.machine ≡ g.M.Machine.answers l.fn.machine)
    × (l.turns + unsent l.self.world ≤ unsent l.fn.self.world)
    × (due l.self.world.client.client ≡ None → IsRound (g.M.Machine.answers l.fn.machine) false l.self.world [])

abbrev pub decreases-loop-self : goal.decreases-loop-self
decreases-loop-self g l = unsent l.self.world
