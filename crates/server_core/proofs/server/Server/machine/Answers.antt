use Rattle.std.proofs.Common.{rules}
use Rattle.server_core.proofs.Servings.{machined_holds}
use Rattle.server_core.proofs.server.Server.machine.Goals as goal

pub invariant_of-self-2 : goal.invariant_of-self-2
invariant_of-self-2 c =
    machined_holds c.args.outcome c.end.result c.self.inside.controller c.end.new.self c.self.inside.input c.self.inside.out.waiting
    c.as_mut_vec.result.now.items c.end.new.out.items c.end.ensures.0.0 c.end.ensures.1.0 c.end.ensures.0.1
    c.end.ensures.1.1 c.self.invariant (search rules) (search rules)
