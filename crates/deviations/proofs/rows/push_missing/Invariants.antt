use Rattle.deviations.proofs.Names.{◌++◌, ◌≡◌, AllByRecursion, IsFeature, length, missing_places}
use Rattle.deviations.proofs.rows.push_missing.Given as goal

abbrev pub invariant-loop-wanted : goal.invariant-loop-wanted
invariant-loop-wanted l =
    (l.places.items ++ missing_places l.wanted ≡ l.fn.places.items ++ missing_places l.fn.wanted) × AllByRecursion IsFeature l.wanted

abbrev pub decreases-loop-wanted : goal.decreases-loop-wanted
decreases-loop-wanted l = length l.wanted
