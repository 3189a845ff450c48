use Rattle.drawings.proofs.Names.{◌≡◌, drop, farthest}
use Rattle.drawings.proofs.marks.farthest.Given as goal

abbrev pub invariant-loop-touch : goal.invariant-loop-touch
invariant-loop-touch l = farthest l.place (drop l.touch-index l.touches) ≡ farthest l.fn.first l.touches
