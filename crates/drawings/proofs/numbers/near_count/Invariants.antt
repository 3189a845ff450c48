use Rattle.std.proofs.Common.{◌+◌, ◌≡◌, ◌≤◌, drop}
use Rattle.drawings.specs.Numbers.{near_count}
use Rattle.drawings.proofs.numbers.near_count.Given as goal

-- the count so far, and that of the touches that are left, are the whole count
abbrev pub invariant-loop-touch : goal.invariant-loop-touch
invariant-loop-touch l = (l.count + near_count l.view l.at (drop l.touch-index l.touches) ≡ near_count l.view l.at l.touches)
    × (l.count ≤ l.touch-index)
