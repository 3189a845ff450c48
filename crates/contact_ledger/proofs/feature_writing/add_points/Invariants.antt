use Rattle.contact_ledger.proofs.Names.{◌++◌, ◌≡◌, AllByRecursion, drop, IsOnWire, map, point_line, text_of}
use Rattle.contact_ledger.proofs.feature_writing.add_points.Given as goal

-- what is written, and the lines that are left
abbrev pub invariant-loop-point : goal.invariant-loop-point
invariant-loop-point l = record {
  text : l.text.items ++ text_of (map point_line (drop l.point-index l.points)) ≡ l.fn.text.items ++ text_of (map point_line l.points);
  points : AllByRecursion IsOnWire (drop l.point-index l.points) → AllByRecursion IsOnWire l.points;
}
