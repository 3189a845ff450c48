use Rattle.link_world.proofs.Names.{◌+◌, drop, Feature, Hears, List, Note, notes_from, Option, rules, subst, sym}
use Rattle.link_world.proofs.Telling.{told_none, told_one, told_all}
use Rattle.link_world.proofs.connections.watching.tell.Goals as goal

pub loop-at-init : goal.loop-at-init
loop-at-init g c = (
  told_none c.features-features.result.now c.args.held (g.N.Watcher.told c.args.watcher.now),
  λ client after shown. shown,
)

pub loop-at-preserved : goal.loop-at-preserved
loop-at-preserved g c = (
  told_one c.features-features.result.now c.args.held c.loop-at.at c.index-features-at.result
      (g.N.Watcher.told c.args.watcher.now) (g.N.Watcher.told c.loop-at.watcher) (g.N.Watcher.told c.completed.new.self) (search rules)
      c.index-features-at.is c.loop-at.invariant.0 c.completed.ensures.told,
  λ client after shown. c.loop-at.invariant.1 client after (c.completed.ensures.keeps client after shown),
)

pub returns-clause-told : goal.returns-clause-told
returns-clause-told g c =
    subst (λ (told : Option (List Note)). Hears (g.N.Watcher.told c.args.watcher.now) told
    (notes_from (c.args.held + 1) (drop c.args.held c.args.client.now.client.table.tally.features))) (sym c.turned.ensures.told)
    (subst (λ (fs : List Feature). Hears (g.N.Watcher.told c.args.watcher.now) (g.N.Watcher.told c.loop-at.watcher)
    (notes_from (c.args.held + 1) (drop c.args.held fs))) c.features-features.ensures.shown.0
    (told_all c.features-features.result.now c.args.held c.loop-at.at (g.N.Watcher.told c.args.watcher.now)
    (g.N.Watcher.told c.loop-at.watcher) (search rules) c.loop-at.invariant.0))

pub returns-clause-shown : goal.returns-clause-shown
returns-clause-shown g c = c.loop-at.invariant.1 c.args.client.now c.turned.new.self c.turned.ensures.shown
