use Rattle.program_review.proofs.Outside.{◌++◌, ◌≡◌, length, text_reading}
use Rattle.program_review.proofs.readings.read.Given as goal

-- the statements so far and those that are left are all of them
abbrev pub invariant-loop-statement : goal.invariant-loop-statement
invariant-loop-statement l = (l.statements.items ++ l.left.left ≡ (text_reading l.text).statements)
    × (l.left.fault ≡ (text_reading l.text).fault)

abbrev pub decreases-loop-statement : goal.decreases-loop-statement
decreases-loop-statement l = length l.left.left
