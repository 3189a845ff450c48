use Rattle.link_world.proofs.Names.{◌∙◌, ap, arith, length, ServerValue, serving_left}
use Rattle.link_world.proofs.ClientPumps.{if_err}
use Rattle.link_world.proofs.ServerPumps.{serving_stopped_beside, server_stops_working, server_stops_writing, has_served}
use Rattle.link_world.proofs.connections.server_pump.turn.Goals as goal

pub returns-in_err-work-clause-stopped : goal.returns-in_err-work-clause-stopped
returns-in_err-work-clause-stopped g c = if_err c.from_residual-in_err-work.result _ _ c.from_residual-in_err-work.ensures.0
    c.from_residual-in_err-work.ensures.1
    (server_stops_working c.args.server.now c.read_in.new.server c.work.new.server c.in_err-work.field-0.0
    (g.M.Machine.answers c.args.machine.now) c.args.limits.at_least c.args.limits.bound
    (g.R.Source.calls c.args.source.now) (g.R.Source.calls c.read_in.new.source)
    (g.W.Sink.calls c.args.sink.now) c.read_in.new.budget.left c.work.new.budget.left _
    (g.R.Source.left c.args.source.now) (g.R.Source.left c.read_in.new.source) (g.W.Sink.taken c.args.sink.now)
    c.in_ok-read.ensures.read c.work.ensures.goes c.in_err-work.ensures.faults)

pub returns-in_err-push_counted-clause-stopped : goal.returns-in_err-push_counted-clause-stopped
returns-in_err-push_counted-clause-stopped g c = if_err c.from_residual-in_err-push_counted.result _ _
    c.from_residual-in_err-push_counted.ensures.0 c.from_residual-in_err-push_counted.ensures.1
    (server_stops_writing c.args.server.now c.read_in.new.server c.work.new.server c.in_err-push_counted.field-0.0
    (g.M.Machine.answers c.args.machine.now) c.args.limits.at_least c.args.limits.bound
    (g.R.Source.calls c.args.source.now) (g.R.Source.calls c.read_in.new.source)
    (g.W.Sink.calls c.args.sink.now) (g.W.Sink.calls c.push_counted.new.sink) c.read_in.new.budget.left c.work.new.budget.left _
    (g.R.Source.left c.args.source.now) (g.R.Source.left c.read_in.new.source) (g.W.Sink.taken c.args.sink.now)
    (g.W.Sink.taken c.push_counted.new.sink) c.out.result.now c.in_ok-read.ensures.read c.work.ensures.goes c.in_ok-work.ensures.idle
    c.in_ok-work.ensures.counted c.out.ensures c.in_err-push_counted.ensures.front
    (let most = c.push_counted.ensures.bounded in omega (arith, most)))

pub returns-clause-moved : goal.returns-clause-moved
returns-clause-moved g c = has_served c.args.server.now c.read_in.new.server c.work.new.server c.sent.new.self
    (g.M.Machine.answers c.args.machine.now) c.args.limits.at_least c.args.limits.bound
    (g.R.Source.calls c.args.source.now) (g.R.Source.calls c.read_in.new.source)
    (g.W.Sink.calls c.args.sink.now) (g.W.Sink.calls c.push_counted.new.sink) c.read_in.new.budget.left c.work.new.budget.left _ _
    (g.R.Source.left c.args.source.now) (g.R.Source.left c.read_in.new.source) (g.W.Sink.taken c.args.sink.now)
    (g.W.Sink.taken c.push_counted.new.sink) c.out.result.now c.in_ok-read.ensures.read c.work.ensures.goes c.in_ok-work.ensures.idle
    c.out.ensures (ap length c.out-written.ensures) c.in_ok-push_counted.ensures.all c.sent.ensures
    (let most = c.push_counted.ensures.bounded in omega (arith, most))

pub returns-in_err-read-clause-stopped : goal.returns-in_err-read-clause-stopped
returns-in_err-read-clause-stopped g c = if_err c.from_residual.result _ _ c.from_residual.ensures.0 c.from_residual.ensures.1
    (serving_stopped_beside (g.W.Sink.calls c.args.sink.now) (g.M.Machine.answers c.args.machine.now) c.args.limits.bound
    (g.R.Source.calls c.args.source.now) (g.R.Source.calls c.read_in.new.source) c.args.limits.at_least c.args.server.now.end
    (serving_left c.read_in.new.server.end) (g.R.Source.left c.args.source.now) (g.R.Source.left c.read_in.new.source)
    (g.W.Sink.taken c.args.sink.now) (g.W.Sink.taken c.args.sink.now) c.in_err-read.field-0.0
    (c.in_err-read.ensures.stopped (g.M.Machine.answers c.args.machine.now) (g.W.Sink.taken c.args.sink.now)))

pub returns-clause-setup : goal.returns-clause-setup
returns-clause-setup g c = ap (λ (s : ServerValue). s.setup) c.sent.ensures ∙ (c.work.ensures.goes.setup ∙ c.read_in.ensures.setup)

pub returns-in_err-work-clause-setup : goal.returns-in_err-work-clause-setup
returns-in_err-work-clause-setup g c = c.work.ensures.goes.setup ∙ c.read_in.ensures.setup

pub returns-in_err-push_counted-clause-setup : goal.returns-in_err-push_counted-clause-setup
returns-in_err-push_counted-clause-setup g c = c.work.ensures.goes.setup ∙ c.read_in.ensures.setup
