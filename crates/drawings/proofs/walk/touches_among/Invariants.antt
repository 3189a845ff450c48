use Rattle.drawings.proofs.Names.{◌++◌, ◌≡◌, drop, touches_among}
use Rattle.drawings.proofs.walk.touches_among.Given as goal

-- the touches so far, and those among the stops that are left, are all touches
abbrev pub invariant-loop-stop : goal.invariant-loop-stop
invariant-loop-stop l = l.touches.items ++ touches_among (drop l.stop-index l.stops) ≡ touches_among l.stops
