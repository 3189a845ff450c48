use Rattle.dme_orders.proofs.Names.{◌≡◌}
use Rattle.std.specs.Prelude.{[], length}
use Rattle.dme_orders.specs.Named.{last_dated}
use Rattle.dme_orders.proofs.of_records.last_dated.Given as goal

abbrev pub invariant-loop-left : goal.invariant-loop-left
invariant-loop-left l = last_dated l.left l.time ≡ last_dated l.fn.remarks []

abbrev pub decreases-loop-left : goal.decreases-loop-left
decreases-loop-left l = length l.left
