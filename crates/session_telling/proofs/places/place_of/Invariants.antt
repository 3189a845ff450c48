use Rattle.std.proofs.Common.{◌≡◌, ◌+◌, ◌≤◌, take}
use Rattle.std.specs.List.{sum}
use Rattle.session_telling.proofs.places.place_of.Given as goal

-- the touches of the features before this one and those that are left
abbrev pub invariant-loop-at : goal.invariant-loop-at
invariant-loop-at l = (l.fn.number ≡ sum (take l.at l.touches) + l.left) × (1 ≤ l.left)
