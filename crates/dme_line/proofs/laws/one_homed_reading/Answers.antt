use Rattle.dme_line.proofs.HomedLemmas.{one_homed_reading}
use Rattle.dme_line.proofs.laws.one_homed_reading.Goals as goal

pub returns : goal.returns
returns c = one_homed_reading
