use Rattle.dme_line.proofs.Names.{◌≡◌, length, tokens}
use Rattle.dme_line.proofs.tokens.skip_spaces.Given as goal

abbrev pub invariant-loop-left : goal.invariant-loop-left
invariant-loop-left l = tokens l.left ≡ tokens l.bytes

abbrev pub decreases-loop-left : goal.decreases-loop-left
decreases-loop-left l = length l.left
