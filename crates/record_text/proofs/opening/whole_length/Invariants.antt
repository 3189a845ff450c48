use Rattle.std.proofs.Common.{◌≤◌, length, drop}
use Rattle.record_text.proofs.WholeTexts.{HasNone}
use Rattle.record_text.proofs.opening.whole_length.Given as goal

-- no line feed follows
abbrev pub invariant-loop-held : goal.invariant-loop-held
invariant-loop-held l = record { within : l.held ≤ length l.bytes; none : HasNone (drop l.held l.bytes) }

abbrev pub decreases-loop-held : goal.decreases-loop-held
decreases-loop-held l = l.held
