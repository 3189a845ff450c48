use Rattle.std.proofs.Common.{◌≤◌, drop}
use Rattle.drawings.proofs.Longest.{IsFound}
use Rattle.drawings.proofs.magnifying.longest.Given as goal

abbrev pub invariant-loop-stop : goal.invariant-loop-stop
invariant-loop-stop l = record {
  found : IsFound l.stops (drop l.stop-index l.stops) l.longest;
  within : l.longest ≤ 12000000000;
}
