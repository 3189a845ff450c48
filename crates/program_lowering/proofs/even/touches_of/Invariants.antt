use Rattle.program_lowering.proofs.Names.{◌≡◌, Some}
use Rattle.program_lowering.specs.EvenTouches.{touches_to}
use Rattle.program_lowering.proofs.even.touches_of.Given as goal

abbrev pub invariant-loop-place : goal.invariant-loop-place
invariant-loop-place l = touches_to l.bore l.count l.place ≡ Some l.made.items
