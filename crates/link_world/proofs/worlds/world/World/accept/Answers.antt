use Rattle.std.proofs.Common.{rules, sym, refl}
use Rattle.link_world.proofs.Events.{refused_iff}
use Rattle.link_world.proofs.ServerSteps.{accept_far, accept_refused, accept_can, accept_reached}
use Rattle.link_world.proofs.worlds.world.World.accept.Goals as goal

pub returns-then-number-len-clause-can : goal.returns-then-number-len-clause-can
returns-then-number-len-clause-can c = (
  tt,
  accept_far c.args.self.now c.args.number c.self.inside.client c.self.inside.server c.self.inside.connections.items
      c.self.inside.written.items (sym c.self.view_is) (search rules),
  refl,
)

pub returns-in_err-accept-clause-can : goal.returns-in_err-accept-clause-can
returns-in_err-accept-clause-can c = refused_iff _ _ _ c.from_residual.ensures.1 (search rules)
    (accept_refused c.args.self.now c.args.number c.self.inside.client c.self.inside.server c.self.inside.connections.items
    c.self.inside.written.items (sym c.self.view_is) c.self.invariant (search rules) (search rules))

pub invariant_of-self-2 : goal.invariant_of-self-2
invariant_of-self-2 c = accept_reached c.args.number c.self.inside.client c.self.inside.server c.accept.new.self
    c.self.inside.connections.items c.self.inside.written.items c.self.invariant (c.in_ok-accept.ensures.can.0 refl) (search rules)
    c.in_ok-accept.ensures.leads.0

pub returns-clause-can : goal.returns-clause-can
returns-clause-can c = (
  accept_can c.args.self.now c.args.number c.self.inside.client c.self.inside.server c.self.inside.connections.items
      c.self.inside.written.items (sym c.self.view_is) (c.in_ok-accept.ensures.can.0 refl) (search rules),
  tt,
  tt,
)
