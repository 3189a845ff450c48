use Rattle.witness.proofs.ToldLaws.{written_read, told_read}
use Rattle.witness.proofs.told_laws.written_is_read.Goals as goal

pub returns-clause-written : goal.returns-clause-written
returns-clause-written c = written_read

pub returns-clause-same : goal.returns-clause-same
returns-clause-same c = told_read
