use Rattle.dme_line.proofs.ResponseBack.{response_reads_back, response-wire}
use Rattle.dme_line.proofs.laws.response_reads_back.Goals as goal

pub returns-clause-text : goal.returns-clause-text
returns-clause-text c = response-wire

pub returns-clause-back : goal.returns-clause-back
returns-clause-back c = response_reads_back
