use Rattle.link_world.proofs.Names.{[], ◌+◌, ◌∙◌, ap, arith, HasRun, IsReached, refl, rules, seen, subst, sym, take, WorldValue}
use Rattle.link_world.specs.declared.worlds.world.RunCount.{RunCount}
use Rattle.link_world.proofs.Reached.{headline_seen}
use Rattle.link_world.proofs.SameKind.{answer_refused, answer_wanting, same_then}
use Rattle.link_world.proofs.Undisturbed.{run_leads, new_follows}
use Rattle.link_world.proofs.Running.{ran_ok, ran_refused, ran_wanting, ran_all}
use Rattle.link_world.proofs.worlds.world.World.run.Goals as goal
use Rattle.link_world.proofs.worlds.world.World.run.Goals.{in-Ok, in-Err-NotNow, in-Err-Memory}

pub loop-event-init : goal.loop-event-init
loop-event-init c =
    let l : WorldValue = seen c.self.inside.client c.self.inside.server c.self.inside.connections.items c.self.inside.written.items in (
      record { answers = []; leads = refl; done_are = refl; not_now_are = refl; memory_are = refl },
      record { setup = refl; program = refl; window = refl },
      refl,
      headline_seen l _ c.self.view_is c.self.invariant,
    )

pub loop-event-preserved : goal.loop-event-preserved
loop-event-preserved c = (
  elim c.match-step.branch [
    | in-Ok w ↦
        subst (λ (n : RunCount). HasRun c.args.self.now.world (take (c.loop-event.event-index + 1) c.args.events.now)
        c.step.new.self.world n.done n.not_now n.memory) (sym w.count-is)
        (ran_ok c.args.self.now.world c.loop-event.self.world c.step.new.self.world c.args.events.now c.loop-event.event-index
        c.event-item.result
        c.loop-event.count.done c.loop-event.count.not_now c.loop-event.count.memory c.loop-event-test.true c.event-item.is
        (c.loop-event.invariant.0)
        w.in-Ok.ensures.answer (ap (λ (k : WorldValue). k.world) w.in-Ok.ensures.leads.0))
    | in-Err-NotNow w ↦
        subst (λ (n : RunCount). HasRun c.args.self.now.world (take (c.loop-event.event-index + 1) c.args.events.now)
        c.step.new.self.world n.done n.not_now n.memory) (sym w.count-is)
        (ran_refused c.args.self.now.world c.loop-event.self.world c.step.new.self.world c.args.events.now c.loop-event.event-index
        c.event-item.result
        c.loop-event.count.done c.loop-event.count.not_now c.loop-event.count.memory c.loop-event-test.true c.event-item.is
        (c.loop-event.invariant.0)
        (answer_refused c.event-item.result c.loop-event.self.world c.step.result c.step.ensures.answer (search rules))
        (ap (λ (k : WorldValue). k.world) w.in-Err-NotNow.ensures.leads.1))
    | in-Err-Memory w ↦
        subst (λ (n : RunCount). HasRun c.args.self.now.world (take (c.loop-event.event-index + 1) c.args.events.now)
        c.step.new.self.world n.done n.not_now n.memory) (sym w.count-is)
        (ran_wanting c.args.self.now.world c.loop-event.self.world c.step.new.self.world c.args.events.now c.loop-event.event-index
        c.event-item.result
        c.loop-event.count.done c.loop-event.count.not_now c.loop-event.count.memory c.loop-event-test.true c.event-item.is
        (c.loop-event.invariant.0)
        (answer_wanting c.event-item.result c.loop-event.self.world c.step.result c.step.ensures.answer (search rules)).1
        (answer_wanting c.event-item.result c.loop-event.self.world c.step.result c.step.ensures.answer (search rules)).0
        (ap (λ (k : WorldValue). k.world) w.in-Err-Memory.ensures.leads.1))
  ],
  same_then c.args.self.now c.loop-event.self c.step.new.self c.loop-event.invariant.1 c.step.ensures.fixed,
  elim c.match-step.branch [ in-Ok w ↦ grind arith | in-Err-NotNow w ↦ grind arith | in-Err-Memory w ↦ grind arith ],
  c.step.ensures.always,
)

pub returns-clause-ran : goal.returns-clause-ran
returns-clause-ran c = record {
  led = ran_all c.args.self.now.world c.loop-event.self.world c.args.events.now c.loop-event.event-index c.loop-event.count.done
      c.loop-event.count.not_now c.loop-event.count.memory c.loop-event-test.false c.loop-event.invariant.0;
  all = grind arith;
  whole = run_leads c.args.self.now.world c.loop-event.self.world c.args.events.now c.loop-event.count.done
      c.loop-event.count.not_now c.loop-event.count.memory
      (ran_all c.args.self.now.world c.loop-event.self.world c.args.events.now c.loop-event.event-index c.loop-event.count.done
      c.loop-event.count.not_now c.loop-event.count.memory c.loop-event-test.false c.loop-event.invariant.0);
}

pub returns-clause-undisturbed : goal.returns-clause-undisturbed
returns-clause-undisturbed c =
    new_follows c.args.self.now c.loop-event.self.world c.args.events.now c.loop-event.count.done c.loop-event.count.not_now
    c.loop-event.count.memory (subst IsReached c.self.view_is c.self.invariant)
    (ran_all c.args.self.now.world c.loop-event.self.world c.args.events.now c.loop-event.event-index
    c.loop-event.count.done c.loop-event.count.not_now c.loop-event.count.memory c.loop-event-test.false
    c.loop-event.invariant.0)
