use Rattle.std.proofs.Common.{rules}
use Rattle.link_world.proofs.Reached.{start_reached}
use Rattle.link_world.proofs.worlds.world.World.new.Goals as goal

pub invariant_of-result : goal.invariant_of-result
invariant_of-result c =
    start_reached c.args.program c.args.setup c.args.window c.in-Ok.client c.in-Ok-new.server c.new-in-Ok-new.result.items
    c.new-in-Ok-new-2.result.items (search rules) (search rules) (search rules) (search rules) (search rules) (search rules)
