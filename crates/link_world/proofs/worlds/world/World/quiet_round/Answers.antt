use Rattle.link_world.proofs.Names.{Bool, false, IsRound, Makes, None, Some, staged, subst, true}
use Rattle.link_world.proofs.Thens.{then_more, then_cut, tells_cut, any_of_six}
use Rattle.link_world.proofs.worlds.world.World.quiet_round.Goals as goal

pub returns-in_err-raised-clause-made : goal.returns-in_err-raised-clause-made
returns-in_err-raised-clause-made g c = tells_cut c.from_residual-in_err-raised.result
    (IsRound (g.M.Machine.answers c.args.machine.now)) (staged c.args.self.now c.args.trace.now) (staged c.up_all.new.self c.up_all.new.trace)
    c.from_residual-in_err-raised.ensures.0 (then_more _ _ true _ None _ _ _ (c.in_ok-sent.ensures)
    (then_cut _ _ _ _ (c.in_err-raised.ensures)))

pub returns-in_err-read-clause-made : goal.returns-in_err-read-clause-made
returns-in_err-read-clause-made g c = tells_cut c.from_residual-in_err-read.result
    (IsRound (g.M.Machine.answers c.args.machine.now)) (staged c.args.self.now c.args.trace.now) (staged c.repeat-2.new.self c.repeat-2.new.trace)
    c.from_residual-in_err-read.ensures.0 (then_more _ _ true _ None _ _ _ (c.in_ok-sent.ensures)
    (then_more _ _ true _ None _ _ _ (c.in_ok-raised.ensures)
    (then_cut _ _ _ _ (c.in_err-read.ensures))))

pub returns-in_err-worked-clause-made : goal.returns-in_err-worked-clause-made
returns-in_err-worked-clause-made g c = tells_cut c.from_residual-in_err-worked.result
    (IsRound (g.M.Machine.answers c.args.machine.now)) (staged c.args.self.now c.args.trace.now) (staged c.work.new.self c.work.new.trace)
    c.from_residual-in_err-worked.ensures.0 (then_more _ _ true _ None _ _ _ (c.in_ok-sent.ensures)
    (then_more _ _ true _ None _ _ _ (c.in_ok-raised.ensures)
    (then_more _ _ true _ None _ _ _ (c.in_ok-read.ensures)
    (then_cut _ _ _ _ (c.in_err-worked.ensures.made)))))

pub returns-in_err-lowered-clause-made : goal.returns-in_err-lowered-clause-made
returns-in_err-lowered-clause-made g c = tells_cut c.from_residual-in_err-lowered.result
    (IsRound (g.M.Machine.answers c.args.machine.now)) (staged c.args.self.now c.args.trace.now) (staged c.down_all.new.self c.down_all.new.trace)
    c.from_residual-in_err-lowered.ensures.0 (then_more _ _ true _ None _ _ _ (c.in_ok-sent.ensures)
    (then_more _ _ true _ None _ _ _ (c.in_ok-raised.ensures)
    (then_more _ _ true _ None _ _ _ (c.in_ok-read.ensures)
    (then_more _ _ true _ None _ _ _ (c.in_ok-worked.ensures.made)
    (then_cut _ _ _ _ (c.in_err-lowered.ensures))))))

pub returns-in_err-heard-clause-made : goal.returns-in_err-heard-clause-made
returns-in_err-heard-clause-made g c = tells_cut c.from_residual-in_err-heard.result
    (IsRound (g.M.Machine.answers c.args.machine.now)) (staged c.args.self.now c.args.trace.now) (staged c.repeat-3.new.self c.repeat-3.new.trace)
    c.from_residual-in_err-heard.ensures.0 (then_more _ _ true _ None _ _ _ (c.in_ok-sent.ensures)
    (then_more _ _ true _ None _ _ _ (c.in_ok-raised.ensures)
    (then_more _ _ true _ None _ _ _ (c.in_ok-read.ensures)
    (then_more _ _ true _ None _ _ _ (c.in_ok-worked.ensures.made)
    (then_more _ _ true _ None _ _ _ (c.in_ok-lowered.ensures)
    (c.in_err-heard.ensures))))))

pub returns-clause-made : goal.returns-clause-made
returns-clause-made g c = subst (λ (b : Bool).
    Makes (IsRound (g.M.Machine.answers c.args.machine.now)) false (Some b) (staged c.args.self.now c.args.trace.now) (staged c.repeat-3.new.self c.repeat-3.new.trace))
    (any_of_six c.in_ok-sent.sent c.in_ok-raised.raised c.in_ok-read.read
    c.in_ok-worked.worked c.in_ok-lowered.lowered c.in_ok-heard.heard)
    (then_more _ _ false _ _ _ _ _ (c.in_ok-sent.ensures)
    (then_more _ _ false _ _ _ _ _ (c.in_ok-raised.ensures)
    (then_more _ _ false _ _ _ _ _ (c.in_ok-read.ensures)
    (then_more _ _ false _ _ _ _ _ (c.in_ok-worked.ensures.made)
    (then_more _ _ false _ _ _ _ _ (c.in_ok-lowered.ensures)
    (c.in_ok-heard.ensures))))))
