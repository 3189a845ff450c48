use Rattle.std.proofs.Common.{rules}
use Rattle.server_core.proofs.Servings.{read_holds}
use Rattle.server_core.proofs.server.Server.read_one.Goals as goal

pub invariant_of-self-2 : goal.invariant_of-self-2
invariant_of-self-2 c =
    read_holds c.read_line.result c.self.inside.controller c.read_line.new.self c.self.inside.input c.first_line.new.self
    c.drop_line.new.self c.self.inside.out.waiting c.as_mut_vec.result.now.items c.read_line.new.out.items _ _
    c.read_line.ensures.controller c.read_line.ensures.text
    c.drop_line.ensures.dropped c.self.invariant (search rules) (search rules) (search rules) (search rules) (search rules)
