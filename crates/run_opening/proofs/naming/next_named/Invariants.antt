use Rattle.run_opening.specs.Naming.{AreNone}
use Rattle.run_opening.proofs.naming.next_named.Given as goal

-- none was named so far
abbrev pub invariant-loop-at : goal.invariant-loop-at
invariant-loop-at l = AreNone l.from l.at l.order
