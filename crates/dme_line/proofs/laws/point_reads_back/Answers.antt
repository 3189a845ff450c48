use Rattle.dme_line.proofs.ResponseBack.{point_reads_back, data_writable}
use Rattle.dme_line.proofs.WireTexts.{point-wire}
use Rattle.dme_line.proofs.laws.point_reads_back.Goals as goal

pub returns-clause-text : goal.returns-clause-text
returns-clause-text c = point-wire

pub returns-clause-back : goal.returns-clause-back
returns-clause-back c = point_reads_back

pub returns-clause-response : goal.returns-clause-response
returns-clause-response c = data_writable
