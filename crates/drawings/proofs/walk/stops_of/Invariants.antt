use Rattle.std.proofs.Common.{drop}
use Rattle.std.specs.List.{AllByRecursion}
use Rattle.dmis_program.specs.Programs.{IsStep}
use Rattle.drawings.proofs.Walked.{Walked}
use Rattle.drawings.proofs.walk.stops_of.Given as goal

abbrev pub invariant-loop-step : goal.invariant-loop-step
invariant-loop-step l = record {
  walked : Walked l.steps l.features (drop l.step-index l.steps) l.walk.stops.items l.walk.origin l.walk.features.now l.walk.points.now;
  steps : AllByRecursion IsStep (drop l.step-index l.steps);
}
