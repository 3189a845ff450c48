use Rattle.std.proofs.Common.{length}
use Rattle.std.specs.Option.{option_copied}
use Rattle.resume_plan.proofs.PlacesBehind.{IsBehind}
use Rattle.resume_plan.proofs.position.position_behind.Given as goal

abbrev pub invariant-loop-left : goal.invariant-loop-left
invariant-loop-left l = IsBehind l.completed l.steps l.left l.rest (option_copied l.tool) l.frame

abbrev pub decreases-loop-left : goal.decreases-loop-left
decreases-loop-left l = length l.rest
