use Rattle.std.proofs.Common.{rules}
use Rattle.server_core.proofs.Servings.{turned_holds}
use Rattle.server_core.proofs.server.Server.turn.Goals as goal

pub invariant_of-self-2 : goal.invariant_of-self-2
invariant_of-self-2 c =
    turned_holds c.turn.result c.self.inside.controller c.turn.new.self c.self.inside.input c.self.inside.out.waiting
    c.as_mut_vec.result.now.items c.turn.new.out.items c.turn.ensures.0.0 c.turn.ensures.1.0 c.turn.ensures.0.1
    c.turn.ensures.1.1 c.self.invariant (search rules) (search rules)
