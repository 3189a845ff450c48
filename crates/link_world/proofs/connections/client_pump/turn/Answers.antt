use Rattle.link_world.proofs.Names.{◌+◌, arith, end_left}
use Rattle.link_world.proofs.ClientPumps.{if_err, stopped_beside, stops_asking, stops_taking, stops_reading, has_moved}
use Rattle.link_world.proofs.connections.client_pump.turn.Goals as goal

pub returns-in_err-written-clause-stopped : goal.returns-in_err-written-clause-stopped
returns-in_err-written-clause-stopped g c = if_err c.from_residual.result _ _ c.from_residual.ensures.0 c.from_residual.ensures.1
    (stopped_beside (g.R.Source.calls c.args.source.now) c.args.bound (g.W.Sink.calls c.args.sink.now)
    (g.W.Sink.calls c.give_out.new.sink)
    c.args.at_least c.args.client.now (end_left c.give_out.new.client) (g.R.Source.left c.args.source.now)
    (g.R.Source.left c.args.source.now) (g.W.Sink.taken c.args.sink.now)
    (g.W.Sink.taken c.give_out.new.sink) c.in_err-written.field-0.0
    (c.in_err-written.ensures.stopped c.args.at_least (g.R.Source.left c.args.source.now)))

pub returns-in_err-feed-clause-stopped : goal.returns-in_err-feed-clause-stopped
returns-in_err-feed-clause-stopped g c = if_err c.from_residual-in_err-feed.result _ _ c.from_residual-in_err-feed.ensures.0
    c.from_residual-in_err-feed.ensures.1
    (stops_asking c.args.client.now c.give_out.new.client c.feed.new.self c.in_err-feed.field-0.0 c.args.at_least c.args.bound
    (g.R.Source.calls c.args.source.now + g.W.Sink.calls c.args.sink.now)
    (g.R.Source.calls c.args.source.now + g.W.Sink.calls c.give_out.new.sink) c.give_out.new.budget.left _
    (g.R.Source.left c.args.source.now) (g.W.Sink.taken c.args.sink.now) (g.W.Sink.taken c.give_out.new.sink)
    c.in_ok-written.ensures.out c.in_err-feed.ensures.leads.1 c.in_err-feed.ensures.refused
    (let most = c.give_out.ensures.bounded in omega (arith, most)))

pub returns-in_err-read-clause-stopped : goal.returns-in_err-read-clause-stopped
returns-in_err-read-clause-stopped g c = if_err c.from_residual-in_err-read.result _ _ c.from_residual-in_err-read.ensures.0
    c.from_residual-in_err-read.ensures.1
    (stops_taking c.args.client.now c.give_out.new.client c.feed.new.self c.take_in.new.client c.in_err-read.field-0.0 c.args.at_least
    c.args.bound
    (g.R.Source.calls c.args.source.now + g.W.Sink.calls c.args.sink.now)
    (g.R.Source.calls c.take_in.new.source + g.W.Sink.calls c.give_out.new.sink) c.give_out.new.budget.left _
    (g.R.Source.left c.args.source.now) (g.R.Source.left c.take_in.new.source)
    (g.W.Sink.taken c.args.sink.now) (g.W.Sink.taken c.give_out.new.sink) c.in_ok-written.ensures.out c.in_ok-feed.ensures.can
    c.in_ok-feed.ensures.leads.0 c.in_err-read.ensures.short
    (let most = c.give_out.ensures.bounded in let more = c.take_in.ensures.bounded in omega (arith, most, more)))

pub returns-in_err-read_lines-clause-stopped : goal.returns-in_err-read_lines-clause-stopped
returns-in_err-read_lines-clause-stopped g c = if_err c.from_residual-in_err-read_lines.result _ _
    c.from_residual-in_err-read_lines.ensures.0 c.from_residual-in_err-read_lines.ensures.1
    (stops_reading c.args.client.now c.give_out.new.client c.feed.new.self c.take_in.new.client c.read_lines.new.client
    c.in_err-read_lines.field-0.0 c.args.at_least c.args.bound
    (g.R.Source.calls c.args.source.now + g.W.Sink.calls c.args.sink.now)
    (g.R.Source.calls c.take_in.new.source + g.W.Sink.calls c.give_out.new.sink) c.give_out.new.budget.left c.take_in.new.budget.left
    c.read_lines.new.budget.left _ _
    (g.R.Source.left c.args.source.now) (g.R.Source.left c.take_in.new.source) (g.W.Sink.taken c.args.sink.now)
    (g.W.Sink.taken c.give_out.new.sink) c.in_ok-written.ensures.out c.in_ok-feed.ensures.can c.in_ok-feed.ensures.leads.0
    c.in_ok-read.ensures.came c.in_ok-read.ensures.enough c.read_lines.ensures.reads c.in_err-read_lines.ensures.faults
    (let most = c.give_out.ensures.bounded in let more = c.take_in.ensures.bounded in omega (arith, most, more)))

pub returns-clause-moved : goal.returns-clause-moved
returns-clause-moved g c = has_moved c.args.client.now c.give_out.new.client c.feed.new.self c.take_in.new.client c.read_lines.new.client
    c.args.at_least c.args.bound
    (g.R.Source.calls c.args.source.now + g.W.Sink.calls c.args.sink.now)
    (g.R.Source.calls c.take_in.new.source + g.W.Sink.calls c.give_out.new.sink) c.give_out.new.budget.left c.take_in.new.budget.left
    c.read_lines.new.budget.left _ _
    (g.R.Source.left c.args.source.now) (g.R.Source.left c.take_in.new.source) (g.W.Sink.taken c.args.sink.now)
    (g.W.Sink.taken c.give_out.new.sink) c.in_ok-written.ensures.out c.in_ok-feed.ensures.can c.in_ok-feed.ensures.leads.0
    c.in_ok-read.ensures.came c.in_ok-read.ensures.enough c.read_lines.ensures.reads c.in_ok-read_lines.ensures.all
    c.in_ok-read_lines.ensures.may
    (let most = c.give_out.ensures.bounded in let more = c.take_in.ensures.bounded in omega (arith, most, more))
