use Rattle.link_world.proofs.Names.{◌-◌, ◌≡◌, due, end_sent, Event, false, is_some, refl, rules, subst, vec_len, WorldValue}
use Rattle.link_world.proofs.Events.{not_now, writes}
use Rattle.link_world.proofs.Reached.{client_quiet}
use Rattle.link_world.proofs.ClientWriting.{none_due, awake, send_fine}
use Rattle.link_world.proofs.worlds.world.World.client_sends.Goals as goal

pub send-requires : goal.send-requires
send-requires c = record {
  quiet = client_quiet c.self.inside.client c.self.inside.server c.self.inside.connections.items c.self.inside.written.items
      c.self.invariant;
  awake = awake c.self.inside.client c.self.inside.server c.self.inside.connections.items c.self.inside.written.items c.self.invariant;
  fine = send_fine c.self.inside.client c.self.inside.server c.self.inside.connections.items c.self.inside.written.items c.self.invariant;
}

pub returns-in_default-clause-can : goal.returns-in_default-clause-can
returns-in_default-clause-can c = not_now _ (subst (λ (l : WorldValue). is_some (due l.world.client.client) ≡ false) c.self.view_is
    (none_due c.self.inside.client c.self.inside.server c.self.inside.connections.items c.self.inside.written.items c.self.invariant
    (λ some. search rules)))

pub invariant_of-self-2 : goal.invariant_of-self-2
invariant_of-self-2 c = (writes Event.ClientSends end_sent c.args.self.now c.self.inside c.send.new.client c.send.new.written.items
    (vec_len c.self.inside.connections - 1) c.in-Some.connection.now c.send.new.connection c.send.result c.self.view_is
    c.self.invariant (λ x. refl) (search rules) (search rules) (search rules) (search rules)
    c.send.ensures.client c.send.ensures.link c.send.ensures.written).reached

pub returns-clause-world : goal.returns-clause-world
returns-clause-world c = (writes Event.ClientSends end_sent c.args.self.now c.self.inside c.send.new.client
    c.send.new.written.items
    (vec_len c.self.inside.connections - 1) c.in-Some.connection.now c.send.new.connection c.send.result c.self.view_is
    c.self.invariant (λ x. refl) (search rules) (search rules) (search rules) (search rules)
    c.send.ensures.client c.send.ensures.link c.send.ensures.written).leads
