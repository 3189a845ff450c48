use Rattle.drawings.proofs.Names.{◌∷◌, x_of, y_of, z_of}
use Rattle.drawings.proofs.Items.{drop_item, drop_past}
use Rattle.drawings.proofs.Reached.{reached_first, reached_more, reached_all}
use Rattle.drawings.proofs.extents.Extents.reaching.Goals as goal

pub loop-stop-init : goal.loop-stop-init
loop-stop-init c = record {
  x = reached_first x_of c.args.first.now c.args.others.now _ _ c.at-extents.ensures.x_low c.at-extents.ensures.x_high;
  y = reached_first y_of c.args.first.now c.args.others.now _ _ c.at-extents.ensures.y_low c.at-extents.ensures.y_high;
  z = reached_first z_of c.args.first.now c.args.others.now _ _ c.at-extents.ensures.z_low c.at-extents.ensures.z_high;
}

pub loop-stop-preserved : goal.loop-stop-preserved
loop-stop-preserved c =
    let step = drop_item c.loop-stop.stop-index c.args.others.now c.stop-item.result c.loop-stop-test.true c.stop-item.is in
    let i = c.loop-stop.invariant in
    let w = c.with-extents.ensures in
    record {
      x = reached_more x_of _ c.stop-item.result _ _ _ _ _ (rw step at i.x) w.x;
      y = reached_more y_of _ c.stop-item.result _ _ _ _ _ (rw step at i.y) w.y;
      z = reached_more z_of _ c.stop-item.result _ _ _ _ _ (rw step at i.z) w.z;
    }

pub returns : goal.returns
returns c =
    let end = drop_past c.loop-stop.stop-index c.args.others.now c.loop-stop-test.false in
    let i = c.loop-stop.invariant in
    record {
      x = reached_all x_of (c.args.first.now ∷ c.args.others.now) _ _ (rw end at i.x);
      y = reached_all y_of (c.args.first.now ∷ c.args.others.now) _ _ (rw end at i.y);
      z = reached_all z_of (c.args.first.now ∷ c.args.others.now) _ _ (rw end at i.z);
    }
