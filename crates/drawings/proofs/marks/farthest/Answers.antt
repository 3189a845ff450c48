use Rattle.std.proofs.Common.{◌∙◌}
use Rattle.drawings.proofs.Farthest.{farthest_more}
use Rattle.drawings.proofs.Items.{drop_item, drop_past}
use Rattle.drawings.proofs.marks.farthest.Goals as goal

pub loop-touch-preserved : goal.loop-touch-preserved
loop-touch-preserved c =
    let step = drop_item c.loop-touch.touch-index c.args.touches.now c.touch-item.result c.loop-touch-test.true c.touch-item.is in
    rw c.farther-place.ensures (rw c.touch_place.ensures (farthest_more c.loop-touch.place c.touch-item.result _
    ∙ (rw step at c.loop-touch.invariant)))

pub returns : goal.returns
returns c = rw (drop_past c.loop-touch.touch-index c.args.touches.now c.loop-touch-test.false) at c.loop-touch.invariant
