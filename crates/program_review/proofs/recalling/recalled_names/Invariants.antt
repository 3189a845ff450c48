use Rattle.program_review.proofs.Names.{◌++◌, ◌≡◌, length, names_recalled}
use Rattle.program_review.proofs.recalling.recalled_names.Given as goal

-- the names so far, and those of what is left
abbrev pub invariant-loop-left : goal.invariant-loop-left
invariant-loop-left l = l.names.items ++ names_recalled l.left ≡ names_recalled l.statements

abbrev pub decreases-loop-left : goal.decreases-loop-left
decreases-loop-left l = length l.left
