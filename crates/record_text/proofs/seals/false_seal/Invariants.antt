use Rattle.std.specs.Prelude.{◌+◌, ◌≡◌, ◌≤◌, length}
use Rattle.contact_ledger.specs.Lines.{whole_lines}
use Rattle.record_text.specs.Seals.{false_from, false_seal}
use Rattle.record_text.proofs.seals.false_seal.Given as goal

-- the lines that are left, below those that were read, have the first such line of the whole text
abbrev pub invariant-loop-line : goal.invariant-loop-line
invariant-loop-line l = (false_from l.key l.above.items (l.number + 1) (whole_lines l.rest) ≡ false_seal l.key l.text)
    × (l.number + length l.rest ≤ length l.text)

abbrev pub decreases-loop-line : goal.decreases-loop-line
decreases-loop-line l = length l.rest
