use Rattle.link_world.proofs.Names.{◌∙◌, rules, staged, sym}
use Rattle.link_world.proofs.WorkLists.{working_more, working_ends, work_less, next_is}
use Rattle.link_world.proofs.worlds.world.World.work.Goals as goal

pub loop-event-smaller : goal.loop-event-smaller
loop-event-smaller g c = work_less (g.M.Machine.answers c.loop-event.machine) c.in-Some.event c.loop-event.self c.attempt.new.self
    (sym c.in-Some.ensures.value) c.in-Some.ensures.possible c.in-Some.ensures.runnable c.in_ok-attempt.ensures.ok

pub loop-event-preserved : goal.loop-event-preserved
loop-event-preserved g c = (
  working_more (g.M.Machine.answers c.args.machine.now) c.in-Some.event c.loop-event.busy (staged c.args.self.now c.args.trace.now)
      (staged c.loop-event.self c.loop-event.trace) (staged c.attempt.new.self c.attempt.new.trace) (c.loop-event.invariant.0)
      (next_is (g.M.Machine.answers c.loop-event.machine) (g.M.Machine.answers c.args.machine.now) c.loop-event.self.world _
      c.loop-event.invariant.1 (sym c.in-Some.ensures.value))
      (c.in_ok-attempt.ensures.leads),
  c.next_work.ensures.keeps ∙ c.loop-event.invariant.1,
)

pub returns-clause-made : goal.returns-clause-made
returns-clause-made g c = working_ends (g.M.Machine.answers c.args.machine.now) c.loop-event.busy (staged c.args.self.now c.args.trace.now)
    (staged c.loop-event.self c.loop-event.trace) (c.loop-event.invariant.0)
    (next_is (g.M.Machine.answers c.loop-event.machine) (g.M.Machine.answers c.args.machine.now) c.loop-event.self.world _
    c.loop-event.invariant.1 (search rules))
