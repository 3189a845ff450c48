use Rattle.drawings.proofs.Looked.{SeenSoFar}
use Rattle.std.proofs.Common.{drop}
use Rattle.drawings.proofs.seen.seen_of.Given as goal

abbrev pub invariant-loop-stop : goal.invariant-loop-stop
invariant-loop-stop l = SeenSoFar l.stops (drop l.stop-index l.stops) l.seen.items
