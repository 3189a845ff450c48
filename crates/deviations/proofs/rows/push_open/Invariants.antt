use Rattle.deviations.proofs.Names.{◌++◌, ◌+◌, ◌≡◌, ◌≤◌, AllByRecursion, IsTouch, length, open_places}
use Rattle.deviations.proofs.rows.push_open.Given as goal

abbrev pub invariant-loop-touches : goal.invariant-loop-touches
invariant-loop-touches l =
    (l.places.items ++ open_places l.fn.wanted.label l.number l.touches
    ≡ l.fn.places.items ++ open_places l.fn.wanted.label 1 l.fn.wanted.touches) × (l.number + length l.touches ≤ 10001)
    × AllByRecursion IsTouch l.touches

abbrev pub decreases-loop-touches : goal.decreases-loop-touches
decreases-loop-touches l = length l.touches
