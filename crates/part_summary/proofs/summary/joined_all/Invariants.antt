use Rattle.std.proofs.Common.{◌≡◌, ◌++◌, length}
use Rattle.part_summary.specs.Batches.{alongs_in, joined_all}
use Rattle.part_summary.proofs.summary.joined_all.Given as goal

abbrev pub invariant-loop-left : goal.invariant-loop-left
invariant-loop-left l = l.all.items ++ joined_all (alongs_in l.later) l.left ≡ joined_all (alongs_in l.fn.rows) l.fn.tallies

abbrev pub decreases-loop-left : goal.decreases-loop-left
decreases-loop-left l = length l.left
