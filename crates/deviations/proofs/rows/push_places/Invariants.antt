use Rattle.deviations.proofs.Names.{◌++◌, ◌+◌, ◌≡◌, ◌≤◌, AllByRecursion, feature_places, IsTouch, length, places_from}
use Rattle.deviations.proofs.rows.push_places.Given as goal

abbrev pub invariant-loop-points : goal.invariant-loop-points
invariant-loop-points l =
    (l.places.items ++ places_from l.fn.feature.label l.connection l.number l.touches l.points
    ≡ l.fn.places.items ++ feature_places l.fn.wanted l.fn.feature) × (l.number + length l.touches ≤ 10001) × AllByRecursion IsTouch l.touches

abbrev pub decreases-loop-points : goal.decreases-loop-points
decreases-loop-points l = length l.points
