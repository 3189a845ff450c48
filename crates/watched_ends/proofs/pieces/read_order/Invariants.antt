use Rattle.watched_ends.proofs.Names.{◌++◌, ◌∷◌, ◌≡◌, header, length, map, piece_line, whole_lines}
use Rattle.watched_ends.proofs.pieces.read_order.Given as goal

-- the pieces that were read, and the lines that are left
abbrev pub invariant-loop-line : goal.invariant-loop-line
invariant-loop-line l = header ∷ (map piece_line l.pieces.items ++ whole_lines l.rest) ≡ whole_lines l.fn.bytes

abbrev pub decreases-loop-line : goal.decreases-loop-line
decreases-loop-line l = length l.rest
