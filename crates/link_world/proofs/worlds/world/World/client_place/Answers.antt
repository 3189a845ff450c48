use Rattle.link_world.proofs.Tracing.{place_is}
use Rattle.link_world.proofs.worlds.world.World.client_place.Goals as goal

pub returns : goal.returns
returns c = place_is c.args.self.now c.self.inside.client c.self.inside.server c.self.inside.connections.items
    c.self.inside.written.items c.is_on.result c.connections_made.result
    c.place.result c.self.view_is c.place.ensures c.is_on.ensures c.connections_made.ensures.last
