use Rattle.witness.proofs.ToldFronts.{header_is_torn, front_is_read}
use Rattle.witness.proofs.told_laws.fronts_are_read.Goals as goal

pub returns-clause-header : goal.returns-clause-header
returns-clause-header c = header_is_torn

pub returns-clause-lines : goal.returns-clause-lines
returns-clause-lines c = front_is_read
