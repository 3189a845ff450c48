use Rattle.dme_line.proofs.reading.read_set_coord_system.Goals as goal

pub returns-in_err-read_system : goal.returns-in_err-read_system
returns-in_err-read_system c = rw c.from_residual.ensures (λ command h. c.in_err-read_system.ensures h.0 h.1)
