use Rattle.std.proofs.Common.{rules}
use Rattle.link_world.proofs.Tracing.{links_count, last_count}
use Rattle.link_world.proofs.worlds.world.World.connections_made.Goals as goal

pub returns-clause-links : goal.returns-clause-links
returns-clause-links c = links_count c.args.self.now c.self.inside.client c.self.inside.server c.self.inside.connections.items
    c.self.inside.written.items c.len.result c.self.view_is (search rules)

pub returns-clause-last : goal.returns-clause-last
returns-clause-last c = last_count c.args.self.now c.self.inside.client c.self.inside.server c.self.inside.connections.items
    c.self.inside.written.items c.len.result c.self.view_is c.self.invariant (search rules)
