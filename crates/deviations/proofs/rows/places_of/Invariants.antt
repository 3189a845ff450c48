use Rattle.deviations.proofs.Names.{◌++◌, ◌≡◌, AllByRecursion, IsFeature, length, places_of}
use Rattle.client_core.specs.Clients.{are_ours}
use Rattle.deviations.proofs.rows.places_of.Given as goal

abbrev pub invariant-loop-features : goal.invariant-loop-features
invariant-loop-features l =
    (l.places.items ++ places_of l.wanted l.features ≡ places_of l.fn.wanted l.fn.features)
    × (are_ours l.wanted l.features ≡ are_ours l.fn.wanted l.fn.features) × AllByRecursion IsFeature l.wanted

abbrev pub decreases-loop-features : goal.decreases-loop-features
decreases-loop-features l = length l.features
