use Rattle.std.proofs.Common.{arith}
use Rattle.program_lowering.proofs.PolarLemmas.{polar-near}
use Rattle.program_lowering.proofs.near_laws.polar_points_are_near.Goals as goal

pub returns-clause-any : goal.returns-clause-any
returns-clause-any c ref r a h rest t place written made = polar-near _ _ ref r a h rest t place written made (omega arith)

pub returns-clause-hundred_metres : goal.returns-clause-hundred_metres
returns-clause-hundred_metres c ref r a h rest t place written made most = polar-near _ _ ref r a h rest t place written made (omega (arith, most))
