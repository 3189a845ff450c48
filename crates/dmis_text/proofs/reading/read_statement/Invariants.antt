use Rattle.dmis_text.proofs.Names.{◌+◌, ◌≡◌, ◌≤◌, length, lines, reading_of, reading_with}
use Rattle.dmis_text.proofs.reading.read_statement.Given as goal

abbrev pub invariant-loop-after : goal.invariant-loop-after
invariant-loop-after l =
    (reading_with l.joined l.number (lines l.rest) ≡ reading_of l.first (lines l.bytes))
    × (l.number + length (lines l.rest) ≡ l.first + length (lines l.bytes))
    × (l.first ≤ l.number)
    × (l.number + length l.rest ≤ l.first + length l.bytes)

abbrev pub decreases-loop-after : goal.decreases-loop-after
decreases-loop-after l = length l.rest
