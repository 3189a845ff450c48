use Rattle.drawings.proofs.Names.{◌++◌, ◌≡◌, escaped, length}
use Rattle.drawings.proofs.texts.put_escaped.Given as goal

abbrev pub invariant-loop-left : goal.invariant-loop-left
invariant-loop-left l = l.out.items ++ escaped l.left ≡ l.initial.out.items ++ escaped l.fn.text

abbrev pub decreases-loop-left : goal.decreases-loop-left
decreases-loop-left l = length l.left
