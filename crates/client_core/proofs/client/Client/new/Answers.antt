use Rattle.std.proofs.Common.{rules}
use Rattle.client_core.proofs.Reached.{new_reached}
use Rattle.client_core.proofs.client.Client.new.Goals as goal

pub invariant_of-result : goal.invariant_of-result
invariant_of-result c =
    new_reached c.args.program c.args.features c.args.window c.new.result c.new-2.result c.new-3.result.waiting (search rules)
    (search rules) (search rules) (search rules) (search rules) (search rules) (search rules)
