use Rattle.drawings.proofs.Items.{drop_item, drop_past}
use Rattle.drawings.proofs.Walked.{walked_more, walked_all}
use Rattle.drawings.specs.Stops.{stops_of}
use Rattle.drawings.proofs.walk.stops_of.Goals as goal

pub loop-step-preserved : goal.loop-step-preserved
loop-step-preserved c =
    let step = drop_item c.loop-step.step-index c.args.steps.now c.step-item.result c.loop-step-test.true c.step-item.is in
    let e = c.in_ok-take.ensures in
    let i = c.loop-step.invariant in
    record {
      walked = walked_more c.args.steps.now c.args.features.now c.step-item.result _ _ _ _ _ _ _ _ _ (rw step at i.walked)
          e.stops e.origin e.later e.points;
      steps = let are = rw step at i.steps in are.1;
    }

pub returns : goal.returns
unfolding stops_of
returns c = walked_all c.args.steps.now c.args.features.now _ _ _ _
    (rw (drop_past c.loop-step.step-index c.args.steps.now c.loop-step-test.false) at c.loop-step.invariant.walked)
