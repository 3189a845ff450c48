use Rattle.dmis_text.proofs.Names.{◌≡◌, length, without_front_blanks}
use Rattle.dmis_text.proofs.bytes.without_front_blanks.Given as goal

abbrev pub invariant-loop-first : goal.invariant-loop-first
invariant-loop-first l = without_front_blanks l.bytes ≡ without_front_blanks l.fn.bytes

abbrev pub decreases-loop-first : goal.decreases-loop-first
decreases-loop-first l = length l.bytes
