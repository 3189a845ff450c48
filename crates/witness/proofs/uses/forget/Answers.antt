use Rattle.witness.proofs.Names.{drop_all, map_over_more, rules, take_all}
use Rattle.witness.specs.Dialogues as spec
use Rattle.witness.proofs.uses.forget.Goals as goal

pub loop-used-preserved : goal.loop-used-preserved
loop-used-preserved c = search (rules, map_over_more (spec.unknowing))

pub returns : goal.returns
returns c = search (rules, take_all, drop_all)
