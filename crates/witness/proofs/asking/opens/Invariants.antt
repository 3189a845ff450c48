use Rattle.std.proofs.Common.{◌≡◌, length}
use Rattle.witness.specs.Asking as spec
use Rattle.witness.proofs.asking.opens.Given as goal

abbrev pub invariant-loop-rest : goal.invariant-loop-rest
invariant-loop-rest l = spec.opens l.rest ≡ spec.opens l.text

abbrev pub decreases-loop-rest : goal.decreases-loop-rest
decreases-loop-rest l = length l.rest
