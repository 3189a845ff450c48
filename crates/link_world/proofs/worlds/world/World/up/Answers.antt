use Rattle.std.proofs.Common.{rules}
use Rattle.link_world.proofs.Events.{inner, stands, comes_up, up_can}
use Rattle.link_world.proofs.Reached.{headline}
use Rattle.link_world.proofs.worlds.world.World.up.Goals as goal

pub server_place-requires : goal.server_place-requires
server_place-requires c = stands c.self.inside c.self.invariant

pub bring_up-requires-clause-fine : goal.bring_up-requires-clause-fine
bring_up-requires-clause-fine c = (headline (inner c.self.inside) c.self.invariant).server.met

pub returns-clause-can : goal.returns-clause-can
returns-clause-can c = up_can c.args.count c.args.self.now c.self.inside c.in-Some.at c.index_mut.result.now c.bring_up.result
    c.self.view_is
    c.self.invariant (search rules) (search rules) (search rules) (search rules) c.bring_up.ensures.can

pub invariant_of-self : goal.invariant_of-self
invariant_of-self c = (comes_up c.args.count c.args.self.now c.self.inside c.bring_up.new.server c.in-Some.at c.index_mut.result.now
    c.bring_up.new.connection c.bring_up.result c.self.view_is c.self.invariant
    (up_can c.args.count c.args.self.now c.self.inside c.in-Some.at c.index_mut.result.now c.bring_up.result c.self.view_is
    c.self.invariant (search rules) (search rules) (search rules) (search rules) c.bring_up.ensures.can)
    (search rules) (search rules) (search rules) c.bring_up.ensures.server c.bring_up.ensures.link).reached

pub returns-clause-world : goal.returns-clause-world
returns-clause-world c = (comes_up c.args.count c.args.self.now c.self.inside c.bring_up.new.server c.in-Some.at
    c.index_mut.result.now
    c.bring_up.new.connection c.bring_up.result c.self.view_is c.self.invariant
    (up_can c.args.count c.args.self.now c.self.inside c.in-Some.at c.index_mut.result.now c.bring_up.result c.self.view_is
    c.self.invariant (search rules) (search rules) (search rules) (search rules) c.bring_up.ensures.can)
    (search rules) (search rules) (search rules) c.bring_up.ensures.server c.bring_up.ensures.link).leads
