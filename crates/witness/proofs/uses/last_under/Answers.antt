use Rattle.witness.proofs.Names.{rules}
use Rattle.witness.proofs.Items.{drop_item}
use Rattle.witness.proofs.uses.last_under.Goals as goal
use Rattle.witness.proofs.uses.last_under.Goals.{then-eq, else-eq}

pub loop-used-preserved : goal.loop-used-preserved
loop-used-preserved c =
    let step = drop_item c.loop-used.used-index c.args.uses.now c.used-item.result c.loop-used-test.true c.used-item.is in
    let before = rw step at c.loop-used.invariant in
    elim c.if-eq.branch [ then-eq w ↦ search (rules, before) | else-eq w ↦ search (rules, before) ]
