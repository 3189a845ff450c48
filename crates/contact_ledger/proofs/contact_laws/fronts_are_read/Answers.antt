use Rattle.contact_ledger.proofs.ContactFronts.{header_is_torn, front_is_read}
use Rattle.contact_ledger.proofs.contact_laws.fronts_are_read.Goals as goal

pub returns-clause-header : goal.returns-clause-header
returns-clause-header c = header_is_torn

pub returns-clause-acts : goal.returns-clause-acts
returns-clause-acts c = front_is_read
