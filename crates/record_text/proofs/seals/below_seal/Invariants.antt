use Rattle.std.specs.Prelude.{◌+◌, ◌≡◌, ◌≤◌, length}
use Rattle.contact_ledger.specs.Lines.{whole_lines}
use Rattle.record_text.specs.Seals.{below_seal}
use Rattle.record_text.proofs.seals.below_seal.Given as goal

-- the lines that are left have the last seals of the whole text
abbrev pub invariant-loop-line : goal.invariant-loop-line
invariant-loop-line l = (below_seal l.below l.number (whole_lines l.rest) ≡ below_seal 1 1 (whole_lines l.text))
    × ((l.number + length (whole_lines l.rest) ≡ length (whole_lines l.text) + 1) × (l.number + length l.rest ≤ length l.text + 1))

abbrev pub decreases-loop-line : goal.decreases-loop-line
decreases-loop-line l = length l.rest
