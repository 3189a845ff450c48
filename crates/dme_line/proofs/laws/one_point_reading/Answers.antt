use Rattle.dme_line.proofs.PointLemmas.{one_point_reading}
use Rattle.dme_line.proofs.laws.one_point_reading.Goals as goal

pub returns : goal.returns
returns c = one_point_reading
