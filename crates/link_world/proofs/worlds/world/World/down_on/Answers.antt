use Rattle.std.proofs.Common.{rules}
use Rattle.link_world.proofs.Tracing.{down_found, down_none}
use Rattle.link_world.proofs.worlds.world.World.down_on.Goals as goal

pub returns-in-Some : goal.returns-in-Some
returns-in-Some c = rw c.waiting.ensures (down_found c.args.self.now c.self.inside.client c.self.inside.server c.self.inside.connections.items
    c.self.inside.written.items c.args.number
    c.saturating_sub.result c.in-Some.connection.now c.self.view_is (search rules) (search rules) (search rules))

pub returns-in-None : goal.returns-in-None
returns-in-None c = down_none c.args.self.now c.self.inside.client c.self.inside.server c.self.inside.connections.items
    c.self.inside.written.items c.args.number
    c.saturating_sub.result c.self.view_is (search rules) (search rules)
