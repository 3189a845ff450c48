use Rattle.std.proofs.Common.{rules, ◌+◌, true, false}
use Rattle.link_world.proofs.ClientSteps.{refused_now, connect_is, connect_may, connect_refused}
use Rattle.link_world.proofs.Events.{not_now, refused_if}
use Rattle.link_world.proofs.worlds.world.World.connect.Goals as goal

pub returns-then-not-may_connect-clause-can : goal.returns-then-not-may_connect-clause-can
returns-then-not-may_connect-clause-can c =
    not_now _ (connect_may c.args.self.now c.self.inside.client c.self.inside.server c.self.inside.connections.items
    c.self.inside.written.items (c.len.result + 1) false (search rules) c.self.invariant (search rules) (search rules))

pub returns-in_err-reserve-clause-can : goal.returns-in_err-reserve-clause-can
returns-in_err-reserve-clause-can c =
    refused_if _ _ _ c.from_residual.ensures.1 (λ e. absurd (cc))
    (λ e. connect_may c.args.self.now c.self.inside.client c.self.inside.server c.self.inside.connections.items
    c.self.inside.written.items (c.len.result + 1) true (search rules) c.self.invariant (search rules) (search rules))

pub returns-in_err-connected-clause-can : goal.returns-in_err-connected-clause-can
returns-in_err-connected-clause-can c =
    refused_if _ _ _ c.from_residual-in_err-connected.ensures.1
    (λ e. connect_refused c.args.self.now c.self.inside.client c.self.inside.server c.self.inside.connections.items
    c.self.inside.written.items (c.len.result + 1) (search rules) c.self.invariant (search rules)
    (refused_now c.self.inside.client c.self.inside.server c.self.inside.connections.items c.self.inside.written.items _
    c.in_err-connected.field-0.0 c.self.invariant c.in_err-connected.ensures.refused e))
    (λ e. connect_may c.args.self.now c.self.inside.client c.self.inside.server c.self.inside.connections.items
    c.self.inside.written.items (c.len.result + 1) true (search rules) c.self.invariant (search rules) (search rules))

pub returns-clause-world : goal.returns-clause-world
returns-clause-world c = (
  connect_is c.args.self.now c.self.inside.client c.connected.new.self c.self.inside.server c.self.inside.connections.items
      c.push_reserved.new.self.items c.self.inside.written.items c.clear.new.self.items c.new.result (c.len.result + 1) (search rules)
      c.self.invariant (search rules) (search rules) (search rules) (search rules) (search rules) (search rules),
  tt,
)
