use Rattle.link_world.proofs.Names.{arith, common_steps, take}
use Rattle.link_world.proofs.ClientPumps.{if_err, came_more, feeds_none}
use Rattle.link_world.proofs.connections.client_pump.take_in.Goals as goal

pub returns-in_err-feed-clause-short : goal.returns-in_err-feed-clause-short
returns-in_err-feed-clause-short g c = if_err c.from_residual-in_err-feed.result _ _ c.from_residual-in_err-feed.ensures.0
    c.from_residual-in_err-feed.ensures.1
    (feeds_none c.args.client.now c.loop-read.client c.feed.new.self (g.R.Source.left c.args.source.now) (g.R.Source.left c.loop-read.source)
    (g.R.Source.left c.pull_counted.new.source) c.args.at_least c.args.budget.now.left c.loop-read.budget.left c.loop-read.read
    (take c.in_ok-count.count c.pull_counted.new.piece) c.in_err-feed.field-0.0 c.loop-read.invariant.0 c.in_ok-count.ensures.came
    c.requires c.in_err-feed.ensures.leads.1 c.in_err-feed.ensures.refused)

pub loop-read-preserved : goal.loop-read-preserved
loop-read-preserved g c = (
  came_more c.args.client.now c.loop-read.client c.feed.new.self (g.R.Source.left c.args.source.now) (g.R.Source.left c.loop-read.source)
      (g.R.Source.left c.pull_counted.new.source) c.args.budget.now.left c.loop-read.budget.left c.pull_counted.new.budget.left
      c.loop-read.read c.in_ok-count.count c.pull_counted.new.piece _ c.loop-read.invariant.0 c.in_ok-count.ensures.came
      c.in_ok-feed.ensures.leads.0 c.in_ok-count.ensures.counted c.in_ok-count.ensures.some c.in_ok-count.ensures.within,
  grind (arith, common_steps),
  grind (arith, common_steps),
  grind (arith, common_steps),
  grind (arith, common_steps),
  grind (arith, common_steps),
)
