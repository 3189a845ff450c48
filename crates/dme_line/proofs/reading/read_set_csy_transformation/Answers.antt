use Rattle.dme_line.proofs.reading.read_set_csy_transformation.Goals as goal

pub returns-in_err-read_zero_point : goal.returns-in_err-read_zero_point
returns-in_err-read_zero_point c = rw c.from_residual.ensures (λ command h. c.in_err-read_zero_point.ensures h.0 h.1)
