use Rattle.std.proofs.Common.{rules}
use Rattle.link_world.proofs.Rejoining.{finish_at}
use Rattle.link_world.proofs.worlds.world.World.can_finish.Goals as goal

pub returns-then-not-is_done-clause-value : goal.returns-then-not-is_done-clause-value
returns-then-not-is_done-clause-value c =
    finish_at c.args.self.now c.self.inside.client c.self.inside.server c.self.inside.connections.items c.self.inside.written.items
    c.len.result (search rules) c.self.invariant (search rules) (search rules)
