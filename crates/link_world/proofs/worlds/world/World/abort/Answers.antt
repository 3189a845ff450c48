use Rattle.link_world.proofs.Names.{◌-◌, ◌≡◌, end_aborted, Event, false, may_abort, refl, rules, subst, vec_len, WorldValue}
use Rattle.link_world.proofs.Events.{not_now, writes}
use Rattle.link_world.proofs.Reached.{client_quiet}
use Rattle.link_world.proofs.ClientWriting.{none_aborts, awake, abort_fine}
use Rattle.link_world.proofs.worlds.world.World.abort.Goals as goal

pub abort-requires : goal.abort-requires
abort-requires c = record {
  quiet = client_quiet c.self.inside.client c.self.inside.server c.self.inside.connections.items c.self.inside.written.items
      c.self.invariant;
  awake = awake c.self.inside.client c.self.inside.server c.self.inside.connections.items c.self.inside.written.items c.self.invariant;
  fine = abort_fine c.self.inside.client c.self.inside.server c.self.inside.connections.items c.self.inside.written.items c.self.invariant;
}

pub returns-in_default-clause-can : goal.returns-in_default-clause-can
returns-in_default-clause-can c = not_now _ (subst (λ (l : WorldValue). may_abort l.world.client.client.state ≡ false) c.self.view_is
    (none_aborts c.self.inside.client c.self.inside.server c.self.inside.connections.items c.self.inside.written.items c.self.invariant
    (λ some. search rules)))

pub invariant_of-self-2 : goal.invariant_of-self-2
invariant_of-self-2 c = (writes Event.Abort end_aborted c.args.self.now c.self.inside c.abort.new.client c.abort.new.written.items
    (vec_len c.self.inside.connections - 1) c.in-Some.connection.now c.abort.new.connection c.abort.result c.self.view_is
    c.self.invariant (λ x. refl) (search rules) (search rules) (search rules) (search rules)
    c.abort.ensures.client c.abort.ensures.link c.abort.ensures.written).reached

pub returns-clause-world : goal.returns-clause-world
returns-clause-world c = (writes Event.Abort end_aborted c.args.self.now c.self.inside c.abort.new.client
    c.abort.new.written.items
    (vec_len c.self.inside.connections - 1) c.in-Some.connection.now c.abort.new.connection c.abort.result c.self.view_is
    c.self.invariant (λ x. refl) (search rules) (search rules) (search rules) (search rules)
    c.abort.ensures.client c.abort.ensures.link c.abort.ensures.written).leads
