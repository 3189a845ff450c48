use Rattle.std.proofs.Common.{rules, ◌+◌, take, drop}
use Rattle.client_core.proofs.Reached.{line_reached, reads_numbered}
use Rattle.client_core.proofs.client.Client.read_one.Goals as goal

pub hear_line-requires : goal.hear_line-requires
hear_line-requires c = record {
  connection =
      reads_numbered c.self.inside.executor c.self.inside.input c.self.inside.out.waiting c.self.invariant (search rules);
}

pub invariant_of-self-2 : goal.invariant_of-self-2
invariant_of-self-2 c =
    line_reached c.self.inside.executor c.hear_line.new.self c.self.inside.input c.drop_line.new.self c.self.inside.out.waiting
    (take c.in-Ok-Some.length c.self.inside.input.rest) (drop (c.in-Ok-Some.length + 2) c.self.inside.input.rest) c.self.invariant
    (search rules)
    (search rules) (search rules) (search rules)
