use Rattle.std.proofs.Common.{ap, length}
use Rattle.link_world.proofs.Tracing.{standing_is}
use Rattle.link_world.proofs.worlds.world.World.standing.Goals as goal

pub returns : goal.returns
returns c = λ last. standing_is c.args.self.now c.self.inside.client c.self.inside.server c.self.inside.connections.items
    c.self.inside.written.items c.client_place.result
    c.view.result.connection c.args.taken (length c.up_on.result.now) (length c.down_on.result.now) c.connections_made.result c.self.view_is c.client_place.ensures
    c.view.ensures.connection last c.connections_made.ensures.last (ap length c.up_on.ensures) (ap length c.down_on.ensures)
