use Rattle.line_framing.proofs.FirstLine.{fault_stays}
use Rattle.line_framing.proofs.laws.later_bytes_change_no_front.Goals as goal

pub returns-clause-fault : goal.returns-clause-fault
returns-clause-fault c = fault_stays
