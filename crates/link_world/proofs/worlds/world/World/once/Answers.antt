use Rattle.link_world.proofs.Names.{IsOne, Some, staged}
use Rattle.link_world.proofs.Instructions.{once_made, once_cut}
use Rattle.link_world.proofs.Thens.{part_cut}
use Rattle.link_world.proofs.worlds.world.World.once.Goals as goal

pub returns-in_err-attempt : goal.returns-in_err-attempt
returns-in_err-attempt c = part_cut c.from_residual.result (λ cut world. IsOne (Some c.args.event) cut) (staged c.args.self.now c.args.trace.now)
    (staged c.attempt.new.self c.attempt.new.trace) c.from_residual.ensures.0 (once_cut c.args.event (staged c.args.self.now c.args.trace.now) (staged c.attempt.new.self c.attempt.new.trace) c.in_err-attempt.ensures.stays)

pub returns : goal.returns
returns c = once_made c.args.event (staged c.args.self.now c.args.trace.now) (staged c.attempt.new.self c.attempt.new.trace) c.in_ok-attempt.ensures.leads
