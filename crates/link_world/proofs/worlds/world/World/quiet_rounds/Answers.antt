use Rattle.link_world.proofs.Names.{◌∙◌, AreCounted, arith, false, false≢true, None, refl, Some, staged, true}
use Rattle.link_world.proofs.RoundLists.{none_yet, round_more, counted_whole, counted_cut, round_as, many_at}
use Rattle.link_world.proofs.Thens.{part_cut}
use Rattle.link_world.proofs.worlds.world.World.quiet_rounds.Goals as goal

pub loop-round-init : goal.loop-round-init
loop-round-init g c = ((none_yet (g.M.Machine.answers c.args.machine.now) false (staged c.args.self.now c.args.trace.now)), refl)

pub loop-round-preserved : goal.loop-round-preserved
loop-round-preserved g c = (
  round_more (g.M.Machine.answers c.args.machine.now) false c.loop-round._round c.in_ok-quiet_round.field-0
      (staged c.args.self.now c.args.trace.now) (staged c.loop-round.self c.loop-round.trace) (staged c.quiet_round.new.self c.quiet_round.new.trace) (c.loop-round.invariant.0)
      (round_as (g.M.Machine.answers c.loop-round.machine) (g.M.Machine.answers c.args.machine.now) false
      (Some c.in_ok-quiet_round.field-0) (staged c.loop-round.self c.loop-round.trace) (staged c.quiet_round.new.self c.quiet_round.new.trace) c.loop-round.invariant.1
      (c.in_ok-quiet_round.ensures.made)) (λ e. absurd (false≢true e)),
  c.quiet_round.ensures.keeps ∙ c.loop-round.invariant.1,
)

pub returns-in_err-quiet_round-clause-made : goal.returns-in_err-quiet_round-clause-made
returns-in_err-quiet_round-clause-made g c = part_cut c.from_residual.result
    (AreCounted (g.M.Machine.answers c.args.machine.now) c.args.count) (staged c.args.self.now c.args.trace.now) (staged c.quiet_round.new.self c.quiet_round.new.trace)
    c.from_residual.ensures.0
    (counted_cut (g.M.Machine.answers c.args.machine.now) c.loop-round._round c.args.count
    (staged c.args.self.now c.args.trace.now) (staged c.loop-round.self c.loop-round.trace) (staged c.quiet_round.new.self c.quiet_round.new.trace) (c.loop-round.invariant.0) c.loop-round-test.true
    (round_as (g.M.Machine.answers c.loop-round.machine) (g.M.Machine.answers c.args.machine.now) true None
    (staged c.loop-round.self c.loop-round.trace) (staged c.quiet_round.new.self c.quiet_round.new.trace) c.loop-round.invariant.1 (c.in_err-quiet_round.ensures.made)))

pub returns-in_err-quiet_round-clause-keeps : goal.returns-in_err-quiet_round-clause-keeps
returns-in_err-quiet_round-clause-keeps g c = c.quiet_round.ensures.keeps ∙ c.loop-round.invariant.1

pub returns-clause-made : goal.returns-clause-made
returns-clause-made g c = counted_whole (g.M.Machine.answers c.args.machine.now) c.args.count (staged c.args.self.now c.args.trace.now)
    (staged c.loop-round.self c.loop-round.trace) (many_at (g.M.Machine.answers c.args.machine.now) false c.loop-round._round c.args.count
    (staged c.args.self.now c.args.trace.now) (staged c.loop-round.self c.loop-round.trace) (omega (arith, c.loop-round-test.false, c.loop-round.auto)) (c.loop-round.invariant.0))

pub returns-clause-keeps : goal.returns-clause-keeps
returns-clause-keeps g c = c.loop-round.invariant.1
