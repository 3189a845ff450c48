use Rattle.dmis_text.proofs.Names.{◌+◌, ◌≡◌, ◌≤◌, length, lines, reading_of}
use Rattle.dmis_text.proofs.reading.whole_statement.Given as goal

abbrev pub invariant-loop-line : goal.invariant-loop-line
invariant-loop-line l =
    (reading_of l.number (lines l.rest) ≡ reading_of l.first (lines l.bytes))
    × (l.number + length (lines l.rest) ≡ l.first + length (lines l.bytes))
    × (l.first ≤ l.number)
    × (l.number + length l.rest ≤ l.first + length l.bytes)

abbrev pub decreases-loop-line : goal.decreases-loop-line
decreases-loop-line l = length l.rest
