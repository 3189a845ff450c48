use Rattle.drawings.proofs.Names.{◌++◌, ◌≡◌, length, sections_text}
use Rattle.drawings.proofs.sections.put_sections.Given as goal

abbrev pub invariant-loop-left : goal.invariant-loop-left
invariant-loop-left l = l.out.items ++ sections_text l.most l.limits l.done l.left l.later
    ≡ l.initial.out.items ++ sections_text l.most l.limits l.measured l.fn.wanted l.fn.rows

abbrev pub decreases-loop-left : goal.decreases-loop-left
decreases-loop-left l = length l.left
