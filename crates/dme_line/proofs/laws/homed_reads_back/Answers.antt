use Rattle.dme_line.proofs.HomedLemmas.{homed_reads_back, digit_reads_back, homed-wire, homed_writable}
use Rattle.dme_line.proofs.laws.homed_reads_back.Goals as goal

pub returns-clause-text : goal.returns-clause-text
returns-clause-text c = homed-wire

pub returns-clause-back : goal.returns-clause-back
returns-clause-back c = homed_reads_back

pub returns-clause-digit : goal.returns-clause-digit
returns-clause-digit c = digit_reads_back

pub returns-clause-response : goal.returns-clause-response
returns-clause-response c = homed_writable
