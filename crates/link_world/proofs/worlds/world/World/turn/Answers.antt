use Rattle.link_world.proofs.Names.{IsReached, None, subst}
use Rattle.link_world.proofs.Turning.{turn_made, turn_fewer, turn_still, turn_cut, on_err}
use Rattle.link_world.proofs.worlds.world.World.turn.Goals as goal

pub returns-clause-made : goal.returns-clause-made
returns-clause-made g c = turn_made (g.M.Machine.answers c.args.machine.now) _ c.args.self.now
    c.quiet_round.new.self _ _ (subst IsReached c.self.view_is c.self.invariant) c.requires.due
    (c.in_ok-quiet_round.ensures.made)

pub returns-clause-fewer : goal.returns-clause-fewer
returns-clause-fewer g c = turn_fewer (g.M.Machine.answers c.args.machine.now) _ c.args.self.now c.quiet_round.new.self _ _
    (subst IsReached c.self.view_is c.self.invariant) c.requires.due c.in_ok-quiet_round.ensures.made

pub returns-clause-still : goal.returns-clause-still
returns-clause-still g c = λ none. turn_still (g.M.Machine.answers c.args.machine.now) _ c.args.self.now
    c.quiet_round.new.self _ _ (c.in_ok-quiet_round.ensures.made) none

pub returns-in_err-quiet_round-clause-cut : goal.returns-in_err-quiet_round-clause-cut
returns-in_err-quiet_round-clause-cut g c = on_err c.from_residual.result _ (turn_cut (g.M.Machine.answers c.args.machine.now) None
    c.args.self.now c.quiet_round.new.self _ _ c.in_err-quiet_round.ensures.made)
