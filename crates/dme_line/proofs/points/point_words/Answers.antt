use Rattle.dme_line.proofs.PointLemmas.{no_z}
use Rattle.dme_line.proofs.points.point_words.Goals as goal

pub returns-in_err-z : goal.returns-in_err-z
returns-in_err-z c =
    rw c.from_residual-in_err-z.ensures (no_z _ _ _ _ _ _ _ c.in_ok-x.ensures c.in_ok-take_mark.ensures c.in_ok-y.ensures
    c.in_ok-take_mark-2.ensures c.in_err-z.ensures)
