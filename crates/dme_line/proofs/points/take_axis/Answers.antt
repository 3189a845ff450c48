use Rattle.dme_line.proofs.Names.{[], ◌∷◌, Single}
use Rattle.dme_line.proofs.points.take_axis.Goals as goal

pub returns-in_err-take_argument : goal.returns-in_err-take_argument
returns-in_err-take_argument c = rw c.from_residual.ensures (λ word. c.in_err-take_argument.ensures (Single (c.args.letter ∷ []) word))
