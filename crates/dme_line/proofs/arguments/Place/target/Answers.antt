use Rattle.dme_line.proofs.arguments.Place.target.Goals as goal

pub returns-in_err-x : goal.returns-in_err-x
returns-in_err-x c = rw c.from_residual.ensures (λ p h. c.in_err-x.ensures p.x h.x)

pub returns-in_err-y : goal.returns-in_err-y
returns-in_err-y c = rw c.from_residual-in_err-y.ensures (λ p h. c.in_err-y.ensures p.y h.y)

pub returns-in_err-z : goal.returns-in_err-z
returns-in_err-z c = rw c.from_residual-in_err-z.ensures (λ p h. c.in_err-z.ensures p.z h.z)
