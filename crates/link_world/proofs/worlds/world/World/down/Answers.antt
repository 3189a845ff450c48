use Rattle.link_world.proofs.Names.{◌-◌, rules, vec_len}
use Rattle.link_world.proofs.ClientBytes.{reads_on}
use Rattle.link_world.proofs.Events.{comes_down, down_can}
use Rattle.link_world.proofs.worlds.world.World.down.Goals as goal

pub bring_down-requires : goal.bring_down-requires
bring_down-requires c = record {
  reads = reads_on c.self.inside.client c.self.inside.server c.self.inside.connections.items
      c.self.inside.written.items c.self.invariant (search rules);
}

pub returns-clause-can : goal.returns-clause-can
returns-clause-can c = down_can c.args.count c.args.self.now c.self.inside (vec_len c.self.inside.connections - 1) c.in-Some.connection.now
    c.bring_down.result c.self.view_is c.self.invariant (search rules) (search rules) (search rules) (search rules)
    c.bring_down.ensures.can

pub invariant_of-self-2 : goal.invariant_of-self-2
invariant_of-self-2 c = (comes_down c.args.count c.args.self.now c.self.inside c.bring_down.new.client
    (vec_len c.self.inside.connections - 1)
    c.in-Some.connection.now c.bring_down.new.connection c.bring_down.result c.self.view_is c.self.invariant
    (down_can c.args.count c.args.self.now c.self.inside (vec_len c.self.inside.connections - 1) c.in-Some.connection.now
    c.bring_down.result c.self.view_is c.self.invariant (search rules) (search rules) (search rules) (search rules)
    c.bring_down.ensures.can)
    (search rules) (search rules) (search rules) c.bring_down.ensures.client c.bring_down.ensures.link).reached

pub returns-clause-world : goal.returns-clause-world
returns-clause-world c = (comes_down c.args.count c.args.self.now c.self.inside c.bring_down.new.client
    (vec_len c.self.inside.connections - 1)
    c.in-Some.connection.now c.bring_down.new.connection c.bring_down.result c.self.view_is c.self.invariant
    (down_can c.args.count c.args.self.now c.self.inside (vec_len c.self.inside.connections - 1) c.in-Some.connection.now
    c.bring_down.result c.self.view_is c.self.invariant (search rules) (search rules) (search rules) (search rules)
    c.bring_down.ensures.can)
    (search rules) (search rules) (search rules) c.bring_down.ensures.client c.bring_down.ensures.link).leads
