use Rattle.std.proofs.Common.{◌≡◌, ◌++◌, length}
use Rattle.part_summary.specs.Batches.{empty_tallies, places_in}
use Rattle.part_summary.proofs.summary.empty_tallies.Given as goal

abbrev pub invariant-loop-left : goal.invariant-loop-left
invariant-loop-left l =
    l.tallies.items ++ empty_tallies l.limits (places_in l.left) ≡ empty_tallies l.fn.limits (places_in l.fn.rows)

abbrev pub decreases-loop-left : goal.decreases-loop-left
decreases-loop-left l = length l.left
