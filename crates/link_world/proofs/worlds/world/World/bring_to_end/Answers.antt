use Rattle.link_world.proofs.Names.{AreFirstOfJoining, AreTurns, CanFinish, false, IsReached, None, rules, subst, true}
use Rattle.link_world.proofs.Ending.{due_behind, short_behind, few_behind, finished, stopped_turning, stopped_joining, same_made, same_turned}
use Rattle.link_world.proofs.Measured.{finish_measures}
use Rattle.link_world.proofs.Rejoining.{may_by}
use Rattle.link_world.proofs.worlds.world.World.bring_to_end.Goals as goal

pub returns-in_err-rejoin-clause-memory : goal.returns-in_err-rejoin-clause-memory
returns-in_err-rejoin-clause-memory g c = λ e. (
  may_by c.args.self.now.world c.can_finish.result (search rules) c.can_finish.ensures.value,
  stopped_joining (g.M.Machine.answers c.args.machine.now) c.args.self.now c.rejoin.new.self c.in_err-rejoin.ensures.cut,
)

pub returns-in_err-rejoin-clause-same : goal.returns-in_err-rejoin-clause-same
returns-in_err-rejoin-clause-same g c = same_made (AreFirstOfJoining) true None c.args.self.now c.rejoin.new.self
    c.in_err-rejoin.ensures.cut

pub turns-requires-clause-due : goal.turns-requires-clause-due
turns-requires-clause-due g c = due_behind c.args.self.now c.rejoin.new.self c.in_ok-rejoin.ensures.joined
    (may_by c.args.self.now.world c.can_finish.result (search rules) c.can_finish.ensures.value) c.can_finish.ensures.on
    c.can_finish.ensures.window

pub turns-requires-clause-short : goal.turns-requires-clause-short
turns-requires-clause-short g c = short_behind c.args.self.now c.rejoin.new.self c.in_ok-rejoin.ensures.joined
    (may_by c.args.self.now.world c.can_finish.result (search rules) c.can_finish.ensures.value) c.can_finish.ensures.on
    (subst IsReached c.self.view_is c.self.invariant)

pub returns-in_err-turns-clause-memory : goal.returns-in_err-turns-clause-memory
returns-in_err-turns-clause-memory g c = λ e. (
  may_by c.args.self.now.world c.can_finish.result (search rules) c.can_finish.ensures.value,
  stopped_turning (g.M.Machine.answers c.args.machine.now) c.args.self.now c.rejoin.new.self c.turns.new.self
      c.in_ok-rejoin.ensures.joined c.in_err-turns.ensures.cut,
)

pub returns-in_err-turns-clause-same : goal.returns-in_err-turns-clause-same
returns-in_err-turns-clause-same g c = same_turned (AreTurns (g.M.Machine.answers c.args.machine.now) 0) true None
    c.args.self.now c.rejoin.new.self c.turns.new.self c.in_ok-rejoin.ensures.joined c.in_err-turns.ensures.cut

pub returns-clause-finishes : goal.returns-clause-finishes
returns-clause-finishes g c = finished (g.M.Machine.answers c.args.machine.now) _
    c.args.self.now c.rejoin.new.self c.turns.new.self c.in_ok-rejoin.ensures.joined (c.in_ok-turns.ensures.made)

pub returns-clause-few : goal.returns-clause-few
returns-clause-few g c = few_behind c.args.self.now c.rejoin.new.self _ c.in_ok-rejoin.ensures.joined
    (may_by c.args.self.now.world c.can_finish.result (search rules) c.can_finish.ensures.value) c.can_finish.ensures.on
    c.in_ok-turns.ensures.few

pub returns-clause-same : goal.returns-clause-same
returns-clause-same g c = same_turned (AreTurns (g.M.Machine.answers c.args.machine.now) _) false None
    c.args.self.now c.rejoin.new.self c.turns.new.self c.in_ok-rejoin.ensures.joined c.in_ok-turns.ensures.made

pub returns-clause-done : goal.returns-clause-done
returns-clause-done g c = λ can. (finish_measures (g.M.Machine.answers c.args.machine.now) _ c.args.self.now c.turns.new.self
    (subst IsReached c.self.view_is c.self.invariant)
    (may_by c.args.self.now.world c.can_finish.result (search rules) c.can_finish.ensures.value) c.can_finish.ensures.window can
    (finished (g.M.Machine.answers c.args.machine.now) _ c.args.self.now c.rejoin.new.self c.turns.new.self
    c.in_ok-rejoin.ensures.joined (c.in_ok-turns.ensures.made))).done

pub returns-clause-measured : goal.returns-clause-measured
returns-clause-measured g c = λ can. (finish_measures (g.M.Machine.answers c.args.machine.now) _ c.args.self.now c.turns.new.self
    (subst IsReached c.self.view_is c.self.invariant)
    (may_by c.args.self.now.world c.can_finish.result (search rules) c.can_finish.ensures.value) c.can_finish.ensures.window can
    (finished (g.M.Machine.answers c.args.machine.now) _ c.args.self.now c.rejoin.new.self c.turns.new.self
    c.in_ok-rejoin.ensures.joined (c.in_ok-turns.ensures.made))).measured
