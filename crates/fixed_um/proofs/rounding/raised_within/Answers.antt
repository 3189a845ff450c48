use Rattle.std.proofs.Common.{arith}
use Rattle.fixed_um.proofs.RoundingLemmas.{raised-ge}
use Rattle.fixed_um.proofs.rounding.raised_within.Goals as goal

pub returns-then-digits-limit : goal.returns-then-digits-limit
returns-then-digits-limit c = λ within. omega (arith, within, raised-ge c.args.digits c.args.zeros, c.if-digits-limit.true)
