use Rattle.witness.proofs.Exactness.{exact, reports_exactly}
use Rattle.witness.proofs.laws.witnesses_keep_the_rules.Goals as goal

pub returns : goal.returns
returns c = record { all = exact; reported = reports_exactly }
