use Rattle.std.proofs.Common.{arith}
use Rattle.run_opening.proofs.naming.next_named.Goals as goal

pub returns-clause-none : goal.returns-clause-none
returns-clause-none c = λ none n few below. let past = c.loop-at-test.false in c.loop-at.invariant n few (omega (arith, past, below))
