use Rattle.client_core.proofs.Names.{◌≡◌, are_ours, length}
use Rattle.client_core.proofs.ours.are_ours.Given as goal

abbrev pub invariant-loop-features : goal.invariant-loop-features
invariant-loop-features l = are_ours l.wanted l.features ≡ are_ours l.fn.wanted l.fn.features

abbrev pub decreases-loop-features : goal.decreases-loop-features
decreases-loop-features l = length l.features
