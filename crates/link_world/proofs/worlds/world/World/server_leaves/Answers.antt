use Rattle.link_world.proofs.Events.{stands}
use Rattle.link_world.proofs.worlds.world.World.server_leaves.Goals as goal

pub server_place-requires : goal.server_place-requires
server_place-requires c = stands c.self.inside c.self.invariant
