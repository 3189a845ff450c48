use Rattle.std.proofs.Common.{arith}
use Rattle.std.proofs.Math.Nat.{one-le-pow, pow-le-pow_right}
use Rattle.program_flow.proofs.numerals.power_of_ten.Goals as goal

pub pow-requires : goal.pow-requires
pow-requires c = omega (arith, pow-le-pow_right {n = 10} (omega arith) c.requires)

pub returns-clause-some : goal.returns-clause-some
returns-clause-some c = omega (arith, c.pow.ensures, one-le-pow c.args.count 10 (omega arith))

pub returns-clause-within : goal.returns-clause-within
returns-clause-within c = λ few. omega (arith, c.pow.ensures, pow-le-pow_right {n = 10} (omega arith) few)
