use Rattle.resume_plan.proofs.Names.{length, planned_with}
use Rattle.resume_plan.proofs.PlansMade.{IsPlan}
use Rattle.resume_plan.proofs.planning.plan.Given as goal

abbrev pub invariant-loop-planning : goal.invariant-loop-planning
invariant-loop-planning l =
    IsPlan l.fn.program l.fn.completed l.fn.start
    (planned_with l.planning.commands.planned.items l.planning.frame l.planning.steps.now)

abbrev pub decreases-loop-planning : goal.decreases-loop-planning
decreases-loop-planning l = length l.planning.steps.now
