use Rattle.std.proofs.Common.{length}
use Rattle.std.specs.Prelude.{◌↔◌}
use Rattle.run_opening.specs.Openings.{AreFirstFeatures}
use Rattle.run_opening.proofs.firsts.are_first.Given as goal

-- those that are left decide it
abbrev pub invariant-loop-features : goal.invariant-loop-features
invariant-loop-features l = AreFirstFeatures l.features l.recorded ↔ AreFirstFeatures l.fn.features l.fn.recorded

abbrev pub decreases-loop-features : goal.decreases-loop-features
decreases-loop-features l = length l.features
