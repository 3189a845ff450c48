use Rattle.dme_line.proofs.reading.read_go_to.Goals as goal

pub returns-in_err-read_move : goal.returns-in_err-read_move
returns-in_err-read_move c = rw c.from_residual.ensures (λ command h. c.in_err-read_move.ensures h.0 h.1)
