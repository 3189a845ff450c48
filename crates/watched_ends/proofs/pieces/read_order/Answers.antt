use Rattle.watched_ends.proofs.Names.{◌++◌, ◌∙◌, ◌∷◌, ap, header, List, map, piece_line, sym, whole_lines, ℕ}
use Rattle.watched_ends.proofs.PieceLemmas.{no_order}
use Rattle.watched_ends.proofs.pieces.read_order.Goals as goal

pub returns-in_default-read_piece : goal.returns-in_default-read_piece
returns-in_default-read_piece c = no_order c.args.bytes.now c.in-Some-cut_line.line.now (whole_lines c.in-Some-cut_line.after.now) c.loop-line.pieces.items
    (ap (λ (l : List (List ℕ)). header ∷ (map piece_line c.loop-line.pieces.items ++ l)) (sym c.in-Some-cut_line.ensures.cut) ∙ c.loop-line.invariant)
    (λ p h. c.in_default-read_piece.ensures p h)
