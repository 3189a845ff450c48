use Rattle.fixed_um.proofs.ReadLemmas.{one_reading}
use Rattle.fixed_um.proofs.numerals.one_reading.Goals as goal

pub returns : goal.returns
returns c = one_reading
