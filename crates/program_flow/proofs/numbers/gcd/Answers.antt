use Rattle.std.proofs.Common.{arith}
use Rattle.std.proofs.lemmas.Nat.Gcd.{IsGcd-from_zero, IsGcd-from_mod}
use Rattle.program_flow.proofs.Divisors.{found_is, found_within}
use Rattle.program_flow.proofs.numbers.gcd.Goals as goal

pub loop-y-preserved : goal.loop-y-preserved
loop-y-preserved c = (λ g h. c.loop-y.invariant.0 g (IsGcd-from_mod _ _ g h), omega (arith, c.loop-y-test.true))

pub returns-clause-value : goal.returns-clause-value
returns-clause-value c = found_is _ _ _ (c.loop-y.invariant.0 _ (IsGcd-from_zero _ _ (omega arith)))

pub returns-clause-within : goal.returns-clause-within
returns-clause-within c = found_within _ _ _ c.requires (c.loop-y.invariant.0 _ (IsGcd-from_zero _ _ (omega arith)))
