use Rattle.std.proofs.Math.Nat.{max-le}
use Rattle.drawings.proofs.Items.{drop_item, drop_past}
use Rattle.drawings.proofs.Longest.{found_more, found_all}
use Rattle.drawings.proofs.magnifying.longest.Goals as goal

pub loop-stop-preserved : goal.loop-stop-preserved
loop-stop-preserved c =
    let step = drop_item c.loop-stop.stop-index c.args.stops.now c.stop-item.result c.loop-stop-test.true c.stop-item.is in
    let i = c.loop-stop.invariant in
    let e = c.longest_of.ensures in
    rw c.max-longest.ensures (record {
      found = found_more c.args.stops.now c.stop-item.result _ c.loop-stop.longest c.longest_of.result (rw step at i.found) e.reaches e.least;
      within = max-le e.within i.within;
    })

pub returns : goal.returns
returns c =
    let end = drop_past c.loop-stop.stop-index c.args.stops.now c.loop-stop-test.false in
    let i = c.loop-stop.invariant in
    record { longest = found_all c.args.stops.now c.loop-stop.longest (rw end at i.found); within = i.within }
