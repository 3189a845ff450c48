use Rattle.program_review.proofs.Names.{◌≡◌, find, is_named, length}
use Rattle.program_review.specs.Lengths.{is_no_length}
use Rattle.program_review.proofs.variables.is_refused_numeral.Given as goal

-- those that are passed are lengths
abbrev pub invariant-loop-left : goal.invariant-loop-left
invariant-loop-left l = is_named l.names (find is_no_length l.left) ≡ is_named l.names (find is_no_length l.numerals)

abbrev pub decreases-loop-left : goal.decreases-loop-left
decreases-loop-left l = length l.left
