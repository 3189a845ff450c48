use Rattle.link_world.proofs.Names.{Event, refl, rules, serving_read}
use Rattle.link_world.proofs.Events.{stands, answers, reads_can}
use Rattle.link_world.proofs.Reached.{server_quiet, server_reads_lines}
use Rattle.link_world.proofs.worlds.world.World.server_reads.Goals as goal

pub server_place-requires : goal.server_place-requires
server_place-requires c = stands c.self.inside c.self.invariant

pub read_line-requires : goal.read_line-requires
read_line-requires c = record {
  quiet = server_quiet c.self.inside.client c.self.inside.server c.self.inside.connections.items c.self.inside.written.items
      c.self.invariant;
  on = search rules;
  lines = server_reads_lines c.self.inside.client c.self.inside.server c.self.inside.connections.items c.self.inside.written.items
      c.self.invariant (search rules);
}

pub returns-clause-can : goal.returns-clause-can
returns-clause-can c =
    reads_can c.args.self.now c.self.inside c.read_line.result c.self.view_is c.self.invariant (search rules) c.read_line.ensures.can

pub invariant_of-self : goal.invariant_of-self
invariant_of-self c = (answers Event.ServerReads serving_read c.args.self.now c.self.inside
    c.read_line.new.server c.in-Some.at c.index_mut.result.now c.read_line.new.connection c.read_line.result c.self.view_is c.self.invariant
    (λ x. refl)
    (reads_can c.args.self.now c.self.inside c.read_line.result c.self.view_is c.self.invariant (search rules) c.read_line.ensures.can)
    (search rules) (search rules) (search rules)
    c.read_line.ensures.server c.read_line.ensures.link).reached

pub returns-clause-world : goal.returns-clause-world
returns-clause-world c = (answers Event.ServerReads serving_read c.args.self.now c.self.inside
    c.read_line.new.server c.in-Some.at c.index_mut.result.now c.read_line.new.connection c.read_line.result c.self.view_is c.self.invariant
    (λ x. refl)
    (reads_can c.args.self.now c.self.inside c.read_line.result c.self.view_is c.self.invariant (search rules) c.read_line.ensures.can)
    (search rules) (search rules) (search rules)
    c.read_line.ensures.server c.read_line.ensures.link).leads
