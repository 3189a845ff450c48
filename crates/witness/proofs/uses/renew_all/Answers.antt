use Rattle.witness.proofs.Names.{all_renewed, drop_all, map_over_more, rules, take_all}
use Rattle.witness.specs.Dialogues as spec
use Rattle.witness.proofs.uses.renew_all.Goals as goal

pub loop-used-preserved : goal.loop-used-preserved
loop-used-preserved c = search (rules, map_over_more (spec.use_renewed (all_renewed c.args.by.now)))

pub returns : goal.returns
returns c = search (rules, take_all, drop_all)
