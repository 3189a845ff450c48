-- Plans of a program in reach are in reach.
use Rattle.protocol_model.proofs.quiet_run.Reaching.{plan_reached}
use Rattle.protocol_model.proofs.quiet.programs_in_reach_have_plans_in_reach.Goals as goal

pub returns : goal.returns
returns c = record { reach = plan_reached }
