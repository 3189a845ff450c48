use Rattle.dme_line.proofs.Names.{sym, the_argument}
use Rattle.dme_line.proofs.WrittenLemmas.{along_behind}
use Rattle.dme_line.proofs.places.read_direction.Goals as goal

pub returns-in-Ok : goal.returns-in-Ok
returns-in-Ok c = along_behind _ _ (the_argument c.in_ok-argument.argument) (c.in_ok-i.i.now, c.in_ok-i.j.now, c.in_ok-i.k.now)
    c.in-Ok.direction (sym c.in_ok-i.ensures) c.in_ok-argument.ensures (c.is_closed.ensures.0 c.if-not-is_closed.false) c.in-Ok.ensures
