use Rattle.program_lowering.proofs.CartesianLemmas.{cartesian_already}
use Rattle.program_lowering.proofs.laws.cartesian_statements_stay.Goals as goal

pub returns : goal.returns
returns c ref s h = cartesian_already ref s (λ e. h)
