use Rattle.drawings.proofs.Names.{AllByRecursion, length}
use Rattle.dmis_program.specs.Programs.{IsFeature}
use Rattle.drawings.proofs.Marked.{MarkedSoFar}
use Rattle.drawings.proofs.marks.marks_of.Given as goal

abbrev pub invariant-loop-wanted : goal.invariant-loop-wanted
invariant-loop-wanted l = record {
  marked : MarkedSoFar l.program.features l.features l.wanted l.measured l.marks.items;
  features : AllByRecursion IsFeature l.wanted;
}

abbrev pub decreases-loop-wanted : goal.decreases-loop-wanted
decreases-loop-wanted l = length l.wanted
