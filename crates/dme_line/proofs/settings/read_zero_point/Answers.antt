use Rattle.dme_line.proofs.settings.read_zero_point.Goals as goal

pub returns-in_err-words : goal.returns-in_err-words
returns-in_err-words c = rw c.from_residual.ensures (λ p h. c.in_err-words.ensures h.words h.spelled)
