use Rattle.drawings.proofs.Names.{◌++◌, ◌≡◌, length, rows_text}
use Rattle.drawings.proofs.sections.put_rows.Given as goal

abbrev pub invariant-loop-left : goal.invariant-loop-left
invariant-loop-left l = l.out.items ++ rows_text l.most l.limits l.left ≡ l.initial.out.items ++ rows_text l.most l.limits l.fn.rows

abbrev pub decreases-loop-left : goal.decreases-loop-left
decreases-loop-left l = length l.left
