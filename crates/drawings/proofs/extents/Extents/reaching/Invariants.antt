use Rattle.drawings.proofs.Names.{◌∷◌, drop, x_of, y_of, z_of}
use Rattle.drawings.proofs.Reached.{IsReached}
use Rattle.drawings.proofs.extents.Extents.reaching.Given as goal

abbrev pub invariant-loop-stop : goal.invariant-loop-stop
invariant-loop-stop l = record {
  x : IsReached x_of (l.first ∷ l.others) (drop l.stop-index l.others) l.extents.x.low l.extents.x.high;
  y : IsReached y_of (l.first ∷ l.others) (drop l.stop-index l.others) l.extents.y.low l.extents.y.high;
  z : IsReached z_of (l.first ∷ l.others) (drop l.stop-index l.others) l.extents.z.low l.extents.z.high;
}
