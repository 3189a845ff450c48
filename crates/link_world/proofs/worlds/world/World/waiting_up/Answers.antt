use Rattle.std.proofs.Common.{rules}
use Rattle.link_world.proofs.AllBytes.{up_waits}
use Rattle.link_world.proofs.Events.{stands}
use Rattle.link_world.proofs.worlds.world.World.waiting_up.Goals as goal

pub server_place-requires : goal.server_place-requires
server_place-requires c = stands c.self.inside c.self.invariant

pub returns-in-Some : goal.returns-in-Some
returns-in-Some c = λ on. rw c.waiting.ensures (up_waits c.args.self.now c.self.inside.client c.self.inside.server
    c.self.inside.connections.items c.self.inside.written.items c.in-Some.at c.index.result.now c.self.view_is (search rules) (search rules)
    (search rules))
