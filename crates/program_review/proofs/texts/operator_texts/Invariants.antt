use Rattle.program_review.proofs.Names.{◌++◌, ◌≡◌, length, map, text_seen, texts_from, texts_of}
use Rattle.program_review.proofs.texts.operator_texts.Given as goal

-- the texts so far, and those of what is left
abbrev pub invariant-loop-left : goal.invariant-loop-left
invariant-loop-left l = map text_seen l.texts.items ++ texts_from l.is_open l.left ≡ texts_of l.statements

abbrev pub decreases-loop-left : goal.decreases-loop-left
decreases-loop-left l = length l.left
