use Rattle.program_review.proofs.Names.{◌++◌, ◌≡◌, length, names_in}
use Rattle.program_review.proofs.variables.push_names.Given as goal

-- the names so far, and those of what is left
abbrev pub invariant-loop-left : goal.invariant-loop-left
invariant-loop-left l = l.names.items ++ names_in l.left ≡ l.fn.names.items ++ names_in l.texts

abbrev pub decreases-loop-left : goal.decreases-loop-left
decreases-loop-left l = length l.left
