use Rattle.order_parts.proofs.Names.{length, planned_with}
use Rattle.order_parts.proofs.PlanLemmas.{IsMaking}
use Rattle.order_parts.proofs.plan.plan_text.Given as goal

abbrev pub invariant-loop-planning : goal.invariant-loop-planning
invariant-loop-planning l =
    IsMaking l.fn.program l.lines.text.items l.lines.number
    (planned_with l.planning.commands.planned.items l.planning.frame l.planning.steps.now)

abbrev pub decreases-loop-planning : goal.decreases-loop-planning
decreases-loop-planning l = length l.planning.steps.now
