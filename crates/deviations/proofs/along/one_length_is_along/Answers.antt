use Rattle.deviations.proofs.Roots.{one_along}
use Rattle.deviations.proofs.along.one_length_is_along.Goals as goal

pub returns : goal.returns
returns c = one_along
