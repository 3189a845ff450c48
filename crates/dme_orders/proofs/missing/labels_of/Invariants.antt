use Rattle.dme_orders.proofs.Names.{◌++◌, ◌≡◌, labels_of, length}
use Rattle.dme_orders.proofs.missing.labels_of.Given as goal

abbrev pub invariant-loop-left : goal.invariant-loop-left
invariant-loop-left l = l.labels.items ++ labels_of l.left ≡ labels_of l.fn.wanted

abbrev pub decreases-loop-left : goal.decreases-loop-left
decreases-loop-left l = length l.left
