use Rattle.link_world.proofs.Names.{◌-◌, rules, vec_len}
use Rattle.link_world.proofs.AllBytes.{down_waits}
use Rattle.link_world.proofs.worlds.world.World.waiting_down.Goals as goal

pub returns-in-Some : goal.returns-in-Some
returns-in-Some c = rw c.waiting.ensures (down_waits c.args.self.now c.self.inside.client c.self.inside.server
    c.self.inside.connections.items c.self.inside.written.items (vec_len c.self.inside.connections - 1) c.in-Some.connection.now
    c.self.view_is c.self.invariant (search rules) (search rules) (search rules))
