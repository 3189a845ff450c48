use Rattle.dme_line.proofs.ResponseBack.{written_error-response, error_writable, error-wire, error_reads_back}
use Rattle.dme_line.proofs.laws.error_reads_back.Goals as goal

pub returns-clause-same : goal.returns-clause-same
returns-clause-same c = written_error-response

pub returns-clause-writable : goal.returns-clause-writable
returns-clause-writable c = error_writable

pub returns-clause-text : goal.returns-clause-text
returns-clause-text c = error-wire

pub returns-clause-back : goal.returns-clause-back
returns-clause-back c = error_reads_back
