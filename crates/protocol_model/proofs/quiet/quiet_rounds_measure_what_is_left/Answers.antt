-- Quiet rounds measure what is left.
use Rattle.protocol_model.proofs.quiet_run.Finished.{done, features}
use Rattle.protocol_model.proofs.quiet.quiet_rounds_measure_what_is_left.Goals as goal

pub returns-clause-done : goal.returns-clause-done
returns-clause-done c = done

pub returns-clause-features : goal.returns-clause-features
returns-clause-features c = features
