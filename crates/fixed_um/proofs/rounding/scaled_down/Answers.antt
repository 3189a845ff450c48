use Rattle.fixed_um.proofs.Names.{arith, one-le-pow}
use Rattle.fixed_um.proofs.rounding.scaled_down.Goals as goal

pub rounded_quotient-requires-clause-some : goal.rounded_quotient-requires-clause-some
rounded_quotient-requires-clause-some c = omega (arith, one-le-pow c.args.places 10 (omega arith), c.in-Some.ensures)
