use Rattle.link_world.proofs.Names.{◌∙◌, ArePlayed, false, refl, staged, true}
use Rattle.link_world.proofs.Instructions.{none_played, played_more, played_cut, played_all, made_as}
use Rattle.link_world.proofs.Thens.{part_cut}
use Rattle.link_world.proofs.worlds.world.World.follow_all.Goals as goal

pub loop-instruction-init : goal.loop-instruction-init
loop-instruction-init g c = ((none_played (g.M.Machine.answers c.args.machine.now) (staged c.args.self.now c.args.trace.now)), refl)

pub loop-instruction-preserved : goal.loop-instruction-preserved
loop-instruction-preserved g c = (
  played_more (g.M.Machine.answers c.args.machine.now) c.args.instructions.now c.loop-instruction.instruction-index
      c.instruction-item.result (staged c.args.self.now c.args.trace.now) (staged c.loop-instruction.self c.loop-instruction.trace) (staged c.follow.new.self c.follow.new.trace) c.loop-instruction-test.true c.instruction-item.is
      (c.loop-instruction.invariant.0)
      (made_as (g.M.Machine.answers c.loop-instruction.machine) (g.M.Machine.answers c.args.machine.now) c.instruction-item.result
      false (staged c.loop-instruction.self c.loop-instruction.trace) (staged c.follow.new.self c.follow.new.trace) c.loop-instruction.invariant.1 (c.in_ok-follow.ensures.made)),
  c.follow.ensures.keeps ∙ c.loop-instruction.invariant.1,
)

pub returns-in_err-follow-clause-made : goal.returns-in_err-follow-clause-made
returns-in_err-follow-clause-made g c = part_cut c.from_residual.result
    (ArePlayed (g.M.Machine.answers c.args.machine.now) c.args.instructions.now) (staged c.args.self.now c.args.trace.now) (staged c.follow.new.self c.follow.new.trace)
    c.from_residual.ensures.0
    (played_cut (g.M.Machine.answers c.args.machine.now) c.args.instructions.now c.loop-instruction.instruction-index
    c.instruction-item.result (staged c.args.self.now c.args.trace.now) (staged c.loop-instruction.self c.loop-instruction.trace) (staged c.follow.new.self c.follow.new.trace) c.loop-instruction-test.true c.instruction-item.is
    (c.loop-instruction.invariant.0)
    (made_as (g.M.Machine.answers c.loop-instruction.machine) (g.M.Machine.answers c.args.machine.now) c.instruction-item.result
    true (staged c.loop-instruction.self c.loop-instruction.trace) (staged c.follow.new.self c.follow.new.trace) c.loop-instruction.invariant.1 (c.in_err-follow.ensures.made)))

pub returns-in_err-follow-clause-keeps : goal.returns-in_err-follow-clause-keeps
returns-in_err-follow-clause-keeps g c = c.follow.ensures.keeps ∙ c.loop-instruction.invariant.1

pub returns-clause-made : goal.returns-clause-made
returns-clause-made g c = played_all (g.M.Machine.answers c.args.machine.now) c.args.instructions.now
    c.loop-instruction.instruction-index (staged c.args.self.now c.args.trace.now) (staged c.loop-instruction.self c.loop-instruction.trace) c.loop-instruction-test.false
    (c.loop-instruction.invariant.0)

pub returns-clause-keeps : goal.returns-clause-keeps
returns-clause-keeps g c = c.loop-instruction.invariant.1
