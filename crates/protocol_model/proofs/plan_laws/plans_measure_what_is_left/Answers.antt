-- Each command of a plan can be written in a line.
use Rattle.protocol_model.proofs.plan.PlanLaws.{plan_can_be_written}
use Rattle.protocol_model.proofs.plan_laws.plans_measure_what_is_left.Goals as goal

-- src/plan_laws.rt:22:1
pub returns-clause-lines : goal.returns-clause-lines
returns-clause-lines c = plan_can_be_written
