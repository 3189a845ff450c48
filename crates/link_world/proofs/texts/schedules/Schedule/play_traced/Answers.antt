use Rattle.link_world.proofs.Names.{ArePlayed, IsReached, rules, simulated, staged, subst}
use Rattle.link_world.proofs.Instructions.{played_as, played_behind, none_plays, none_traced, plays_ok, plays_err, traced_ok, traced_err}
use Rattle.link_world.proofs.Reached.{headline_seen}
use Rattle.link_world.proofs.texts.schedules.Schedule.play_traced.Goals as goal

pub returns-in_err-machine-clause-memory : goal.returns-in_err-machine-clause-memory
returns-in_err-machine-clause-memory c = none_plays c.from_residual.result (simulated c.args.world.now.setup.shifts) c.args.self.now
    c.args.world.now.world

pub returns-in_err-machine-clause-traced_memory : goal.returns-in_err-machine-clause-traced_memory
returns-in_err-machine-clause-traced_memory c = none_traced c.from_residual.result (simulated c.args.world.now.setup.shifts)
    c.args.self.now c.args.world.now.world c.args.trace.now

pub returns-in_err-machine-clause-always : goal.returns-in_err-machine-clause-always
returns-in_err-machine-clause-always c = headline_seen _ _ c.world.view_is c.world.invariant

pub returns-clause-ok : goal.returns-clause-ok
returns-clause-ok c = plays_ok c.follow_all.result (simulated c.args.world.now.setup.shifts) c.args.self.now c.args.world.now
    c.follow_all.new.self c.args.trace.now c.follow_all.new.trace (played_as c.follow_all.result c.args.world.now.setup.shifts
    c.in_ok-machine.machine c.args.self.now c.as_slice.result.now (staged c.args.world.now c.args.trace.now)
    (staged c.follow_all.new.self c.follow_all.new.trace) (search rules) (search rules) c.follow_all.ensures.made)

pub returns-clause-memory : goal.returns-clause-memory
returns-clause-memory c = plays_err c.follow_all.result (simulated c.args.world.now.setup.shifts) c.args.self.now c.args.world.now
    c.follow_all.new.self c.args.trace.now c.follow_all.new.trace (played_as c.follow_all.result c.args.world.now.setup.shifts
    c.in_ok-machine.machine c.args.self.now c.as_slice.result.now (staged c.args.world.now c.args.trace.now)
    (staged c.follow_all.new.self c.follow_all.new.trace) (search rules) (search rules) c.follow_all.ensures.made)

pub returns-clause-traced : goal.returns-clause-traced
returns-clause-traced c = traced_ok c.follow_all.result (simulated c.args.world.now.setup.shifts) c.args.self.now c.args.world.now
    c.follow_all.new.self c.args.trace.now c.follow_all.new.trace (played_as c.follow_all.result c.args.world.now.setup.shifts
    c.in_ok-machine.machine c.args.self.now c.as_slice.result.now (staged c.args.world.now c.args.trace.now)
    (staged c.follow_all.new.self c.follow_all.new.trace) (search rules) (search rules) c.follow_all.ensures.made)

pub returns-clause-traced_memory : goal.returns-clause-traced_memory
returns-clause-traced_memory c = traced_err c.follow_all.result (simulated c.args.world.now.setup.shifts) c.args.self.now c.args.world.now
    c.follow_all.new.self c.args.trace.now c.follow_all.new.trace (played_as c.follow_all.result c.args.world.now.setup.shifts
    c.in_ok-machine.machine c.args.self.now c.as_slice.result.now (staged c.args.world.now c.args.trace.now)
    (staged c.follow_all.new.self c.follow_all.new.trace) (search rules) (search rules) c.follow_all.ensures.made)

pub returns-clause-fixed : goal.returns-clause-fixed
returns-clause-fixed c = (played_behind c.follow_all.result (ArePlayed (simulated c.in_ok-machine.machine) c.as_slice.result.now) c.args.world.now
    c.follow_all.new.self c.args.trace.now c.follow_all.new.trace (subst IsReached c.world.view_is c.world.invariant)
    c.follow_all.ensures.made).kind

pub returns-clause-always : goal.returns-clause-always
returns-clause-always c = (played_behind c.follow_all.result (ArePlayed (simulated c.in_ok-machine.machine) c.as_slice.result.now) c.args.world.now
    c.follow_all.new.self c.args.trace.now c.follow_all.new.trace (subst IsReached c.world.view_is c.world.invariant)
    c.follow_all.ensures.made).always
