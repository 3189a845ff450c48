use Rattle.std.proofs.Common.{◌≡◌, ◌++◌, length}
use Rattle.part_summary.specs.Batches.{places_in}
use Rattle.part_summary.specs.Tables.{touch_rows}
use Rattle.part_summary.proofs.tables.push_touches.Given as goal

abbrev pub invariant-loop-left : goal.invariant-loop-left
invariant-loop-left l = l.out.items ++ touch_rows (places_in l.left) l.later
    ≡ l.fn.out.items ++ touch_rows (places_in l.fn.rows) l.fn.tallies

abbrev pub decreases-loop-left : goal.decreases-loop-left
decreases-loop-left l = length l.left
