use Rattle.program_flow.proofs.Divisors.{gcd-is, same_fraction}
use Rattle.program_flow.proofs.value_examples.the_divisor_is_the_greatest.Goals as goal

pub returns-clause-greatest : goal.returns-clause-greatest
returns-clause-greatest c = gcd-is

pub returns-clause-same : goal.returns-clause-same
returns-clause-same c = same_fraction
