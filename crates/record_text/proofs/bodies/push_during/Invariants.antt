use Rattle.record_text.proofs.Names.{◌++◌, ◌≡◌, errors_during, length}
use Rattle.record_text.proofs.bodies.push_during.Given as goal

abbrev pub invariant-loop-left : goal.invariant-loop-left
invariant-loop-left l = l.errors.items ++ errors_during l.label l.before l.left
    ≡ l.fn.errors.items ++ errors_during l.label l.before l.waiting

abbrev pub decreases-loop-left : goal.decreases-loop-left
decreases-loop-left l = length l.left
