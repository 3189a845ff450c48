use Rattle.drawings.proofs.Names.{AllByRecursion, length}
use Rattle.dmis_program.specs.Programs.{IsTouch}
use Rattle.drawings.proofs.Marked.{PeakSoFar}
use Rattle.drawings.proofs.peaks.peak_of.Given as goal

abbrev pub invariant-loop-touches : goal.invariant-loop-touches
invariant-loop-touches l = record {
  peak : PeakSoFar l.fn.touches l.fn.points l.peak l.touches l.points;
  touches : AllByRecursion IsTouch l.touches;
}

abbrev pub decreases-loop-touches : goal.decreases-loop-touches
decreases-loop-touches l = length l.touches
