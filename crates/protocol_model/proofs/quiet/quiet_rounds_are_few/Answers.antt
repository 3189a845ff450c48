-- Quiet rounds that do something are few.
use Rattle.protocol_model.proofs.quiet_run.Bounded.{bounded}
use Rattle.protocol_model.proofs.quiet.quiet_rounds_are_few.Goals as goal

pub returns : goal.returns
returns c = record { bounded = bounded }
