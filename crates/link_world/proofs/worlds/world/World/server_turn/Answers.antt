use Rattle.link_world.proofs.Names.{Event, refl, rules, serving_turned}
use Rattle.link_world.proofs.Events.{stands, not_now, answers}
use Rattle.link_world.proofs.Reached.{server_quiet}
use Rattle.link_world.proofs.ServerAnswers.{off_turn}
use Rattle.link_world.proofs.worlds.world.World.server_turn.Goals as goal

pub server_place-requires : goal.server_place-requires
server_place-requires c = stands c.self.inside c.self.invariant

pub take_turn-requires : goal.take_turn-requires
take_turn-requires c = record {
  quiet = server_quiet c.self.inside.client c.self.inside.server c.self.inside.connections.items c.self.inside.written.items
      c.self.invariant;
}

pub returns-in_default-clause-can : goal.returns-in_default-clause-can
returns-in_default-clause-can c = not_now _ (off_turn c.args.self.now c.self.inside.client c.self.inside.server
    c.self.inside.connections.items c.self.inside.written.items c.self.view_is c.self.invariant (search rules))

pub invariant_of-self : goal.invariant_of-self
invariant_of-self c = (answers Event.ServerTurn (serving_turned) c.args.self.now c.self.inside
    c.take_turn.new.server c.in-Some.at c.index_mut.result.now c.take_turn.new.connection c.take_turn.result c.self.view_is c.self.invariant
    (λ x. refl) (search rules) (search rules) (search rules) (search rules)
    c.take_turn.ensures.server c.take_turn.ensures.link).reached

pub returns-clause-world : goal.returns-clause-world
returns-clause-world c = (answers Event.ServerTurn (serving_turned) c.args.self.now c.self.inside
    c.take_turn.new.server c.in-Some.at c.index_mut.result.now c.take_turn.new.connection c.take_turn.result c.self.view_is c.self.invariant
    (λ x. refl) (search rules) (search rules) (search rules) (search rules)
    c.take_turn.ensures.server c.take_turn.ensures.link).leads
