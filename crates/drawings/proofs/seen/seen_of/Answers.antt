use Rattle.drawings.proofs.Items.{drop_item, drop_past}
use Rattle.drawings.proofs.Looked.{seen_none, seen_more, seen_all}
use Rattle.drawings.proofs.seen.seen_of.Goals as goal

pub loop-stop-init : goal.loop-stop-init
loop-stop-init c = rw c.new-seen.ensures.items (seen_none c.args.stops.now)

pub loop-stop-preserved : goal.loop-stop-preserved
loop-stop-preserved c =
    let step = drop_item c.loop-stop.stop-index c.args.stops.now c.stop-item.result c.loop-stop-test.true c.stop-item.is in
    rw c.in_ok-push.ensures.items
    (seen_more c.args.stops.now c.stop-item.result _ _ _ (rw step at c.loop-stop.invariant) c.along_of-along.ensures)

pub returns : goal.returns
returns c = seen_all c.args.stops.now _ (rw (drop_past c.loop-stop.stop-index c.args.stops.now c.loop-stop-test.false) at c.loop-stop.invariant)
