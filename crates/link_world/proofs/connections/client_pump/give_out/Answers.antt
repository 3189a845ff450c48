use Rattle.std.proofs.Common.{arith, ap, length}
use Rattle.link_world.proofs.ClientPumps.{if_err, stops_sending, stops_writing, all_out}
use Rattle.link_world.proofs.connections.client_pump.give_out.Goals as goal

pub returns-in_err-send_due-clause-stopped : goal.returns-in_err-send_due-clause-stopped
returns-in_err-send_due-clause-stopped g c = if_err c.from_residual.result _ _ c.from_residual.ensures.0 c.from_residual.ensures.1
    (λ least left. stops_sending c.args.client.now c.send_due.new.client c.in_err-send_due.field-0.0 least c.args.budget.now.left
    (g.W.Sink.calls c.args.sink.now) (g.W.Sink.calls c.args.sink.now) left (g.W.Sink.taken c.args.sink.now) c.send_due.ensures.sent
    c.in_err-send_due.ensures.refused (omega arith))

pub returns-in_err-push_counted-clause-stopped : goal.returns-in_err-push_counted-clause-stopped
returns-in_err-push_counted-clause-stopped g c = if_err c.from_residual-in_err-push_counted.result _ _
    c.from_residual-in_err-push_counted.ensures.0 c.from_residual-in_err-push_counted.ensures.1
    (λ least left. stops_writing c.args.client.now c.send_due.new.client c.in_err-push_counted.field-0.0 least c.args.budget.now.left
    (g.W.Sink.calls c.args.sink.now) (g.W.Sink.calls c.push_counted.new.sink) left (g.W.Sink.taken c.args.sink.now)
    (g.W.Sink.taken c.push_counted.new.sink) c.out.result.now c.send_due.ensures.sent c.in_ok-send_due.ensures.all c.out.ensures
    c.in_err-push_counted.ensures.front (let most = c.push_counted.ensures.bounded in omega (arith, most)))

pub returns-clause-out : goal.returns-clause-out
returns-clause-out g c = all_out c.args.client.now c.send_due.new.client c.sent.new.self (g.W.Sink.taken c.args.sink.now)
    (g.W.Sink.taken c.push_counted.new.sink) c.args.budget.now.left c.push_counted.new.budget.left _ c.out.result.now
    c.send_due.ensures.sent c.in_ok-send_due.ensures.all c.send_due.ensures.held c.out.ensures (ap length c.out-count.ensures)
    c.sent.ensures c.in_ok-push_counted.ensures.all c.in_ok-push_counted.ensures.counted
