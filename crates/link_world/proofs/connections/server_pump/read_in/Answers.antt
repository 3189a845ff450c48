use Rattle.std.proofs.Common.{arith, []}
use Rattle.link_world.proofs.ClientPumps.{if_err}
use Rattle.link_world.proofs.ServerPumps.{may_stay, server_stops_asking, server_stops_taking, server_stops_reading, reads_in}
use Rattle.link_world.proofs.connections.server_pump.read_in.Goals as goal

pub take_in-requires : goal.take_in-requires
take_in-requires g c = may_stay c.args.server.now c.feed.new.self [] c.in_ok-feed.ensures.leads.0 c.in_ok-feed.ensures.can

pub returns-in_err-feed-clause-stopped : goal.returns-in_err-feed-clause-stopped
returns-in_err-feed-clause-stopped g c = if_err c.from_residual.result _ _ c.from_residual.ensures.0
    c.from_residual.ensures.1
    (λ answer taken. server_stops_asking c.args.server.now c.feed.new.self c.in_err-feed.field-0.0 answer c.args.at_least
    c.args.budget.now.left (g.R.Source.calls c.args.source.now) (g.R.Source.left c.args.source.now) taken
    c.in_err-feed.ensures.leads.1 c.view-known.ensures.kept
    c.in_err-feed.ensures.others)

pub returns-in_err-count-clause-stopped : goal.returns-in_err-count-clause-stopped
returns-in_err-count-clause-stopped g c = if_err c.from_residual-in_err-count.result _ _ c.from_residual-in_err-count.ensures.0
    c.from_residual-in_err-count.ensures.1
    (λ answer taken. server_stops_taking c.args.server.now c.feed.new.self c.take_in.new.server c.in_err-count.field-0.0 answer
    c.args.at_least c.args.budget.now.left (g.R.Source.calls c.args.source.now) (g.R.Source.calls c.take_in.new.source)
    (g.R.Source.left c.args.source.now) (g.R.Source.left c.take_in.new.source) taken c.in_ok-feed.ensures.can
    c.in_ok-feed.ensures.leads.0 c.in_err-count.ensures.short (let most = c.take_in.ensures.bounded in omega (arith, most)))

pub returns-in_err-read_lines-clause-stopped : goal.returns-in_err-read_lines-clause-stopped
returns-in_err-read_lines-clause-stopped g c = if_err c.from_residual-in_err-read_lines.result _ _
    c.from_residual-in_err-read_lines.ensures.0 c.from_residual-in_err-read_lines.ensures.1
    (λ answer taken. server_stops_reading c.args.server.now c.feed.new.self c.take_in.new.server c.read_lines.new.server
    c.in_err-read_lines.field-0.0 answer c.args.at_least c.args.budget.now.left
    (g.R.Source.calls c.args.source.now) (g.R.Source.calls c.take_in.new.source) c.take_in.new.budget.left _
    (g.R.Source.left c.args.source.now) (g.R.Source.left c.take_in.new.source) taken c.in_ok-feed.ensures.can
    c.in_ok-feed.ensures.leads.0 c.in_ok-count.ensures.came c.in_ok-count.ensures.enough c.in_err-read_lines.ensures.stops
    (let most = c.take_in.ensures.bounded in omega (arith, most)))

pub returns-clause-read : goal.returns-clause-read
returns-clause-read g c = reads_in c.args.server.now c.feed.new.self c.take_in.new.server c.read_lines.new.server c.args.at_least
    c.args.budget.now.left (g.R.Source.calls c.args.source.now) (g.R.Source.calls c.take_in.new.source)
    c.take_in.new.budget.left c.read_lines.new.budget.left _ (g.R.Source.left c.args.source.now)
    (g.R.Source.left c.take_in.new.source) c.in_ok-feed.ensures.can c.in_ok-feed.ensures.leads.0 c.in_ok-count.ensures.came
    c.in_ok-count.ensures.enough c.in_ok-read_lines.ensures.reads c.in_ok-read_lines.ensures.counted c.in_ok-read_lines.ensures.all
    (let most = c.take_in.ensures.bounded in omega (arith, most))

pub returns-clause-setup : goal.returns-clause-setup
returns-clause-setup g c = (reads_in c.args.server.now c.feed.new.self c.take_in.new.server c.read_lines.new.server c.args.at_least
    c.args.budget.now.left (g.R.Source.calls c.args.source.now) (g.R.Source.calls c.take_in.new.source)
    c.take_in.new.budget.left c.read_lines.new.budget.left _ (g.R.Source.left c.args.source.now)
    (g.R.Source.left c.take_in.new.source) c.in_ok-feed.ensures.can c.in_ok-feed.ensures.leads.0 c.in_ok-count.ensures.came
    c.in_ok-count.ensures.enough c.in_ok-read_lines.ensures.reads c.in_ok-read_lines.ensures.counted c.in_ok-read_lines.ensures.all
    (let most = c.take_in.ensures.bounded in omega (arith, most))).setup
