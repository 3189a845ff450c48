use Rattle.witness.proofs.Names.{◌++◌, FramingFault, IsStream, length, List, Option, ℕ}
use Rattle.witness.proofs.witness.cut_lines.Given as goal

-- the lines that were cut off, and those of what is left, are those of the bytes
abbrev pub invariant-loop-line : goal.invariant-loop-line
invariant-loop-line l = (lines : List (List ℕ)) (rest : List ℕ) (fault : Option FramingFault) → IsStream l.lines.rest lines rest fault
    → IsStream l.fn.bytes (l.all.items ++ lines) rest fault

abbrev pub decreases-loop-line : goal.decreases-loop-line
decreases-loop-line l = length l.lines.rest
