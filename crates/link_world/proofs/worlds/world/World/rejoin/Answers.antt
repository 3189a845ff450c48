use Rattle.std.proofs.Common.{rules, ◌+◌}
use Rattle.link_world.proofs.Rejoining.{joins_all, joins_none, joins_client, joins_server, joins_connect, next_at}
use Rattle.link_world.proofs.Turning.{on_err}
use Rattle.link_world.proofs.worlds.world.World.rejoin.Goals as goal

pub returns-in_err-attempt-clause-cut : goal.returns-in_err-attempt-clause-cut
returns-in_err-attempt-clause-cut c = on_err c.from_residual.result _ (joins_none c.args.self.now c.attempt.new.self
    c.in_err-attempt.ensures.err)

pub returns-in_err-attempt-2-clause-cut : goal.returns-in_err-attempt-2-clause-cut
returns-in_err-attempt-2-clause-cut c = on_err c.from_residual-in_err-attempt-2.result _ (joins_client c.args.self.now c.attempt.new.self c.attempt-2.new.self (c.in_ok-attempt.ensures.ok)
    c.in_err-attempt-2.ensures.err)

pub returns-in_err-attempt-3-clause-cut : goal.returns-in_err-attempt-3-clause-cut
returns-in_err-attempt-3-clause-cut c = on_err c.from_residual-in_err-attempt-3.result _ (joins_server c.args.self.now c.attempt.new.self c.attempt-2.new.self c.attempt-3.new.self
    (c.in_ok-attempt.ensures.ok) (c.in_ok-attempt-2.ensures.ok) c.in_err-attempt-3.ensures.err)

pub returns-in_err-attempt-4-clause-cut : goal.returns-in_err-attempt-4-clause-cut
returns-in_err-attempt-4-clause-cut c = on_err c.from_residual-in_err-attempt-4.result _ (joins_connect c.args.self.now c.attempt.new.self c.attempt-2.new.self c.attempt-3.new.self c.attempt-4.new.self
    (c.in_ok-attempt.ensures.ok) (c.in_ok-attempt-2.ensures.ok) (c.in_ok-attempt-3.ensures.ok)
    c.in_err-attempt-4.ensures.err)

pub returns-clause-joined : goal.returns-clause-joined
returns-clause-joined c = joins_all c.args.self.now c.attempt.new.self c.attempt-2.new.self c.attempt-3.new.self c.attempt-4.new.self
    (c.len.result + 1)
    (next_at c.args.self.now c.self.inside.client c.self.inside.server c.self.inside.connections.items c.self.inside.written.items
    c.len.result (search rules) c.self.invariant (search rules))
    (c.in_ok-attempt.ensures.ok) (c.in_ok-attempt-2.ensures.ok) (c.in_ok-attempt-3.ensures.ok)
    (c.in_ok-attempt-4.ensures.ok)
