use Rattle.dme_line.specs.Taken.{the_list}
use Rattle.dme_line.proofs.PlaceLemmas.{along_is, along_refused}
use Rattle.dme_line.proofs.arguments.Place.along.Goals as goal

pub returns-in-Ok : goal.returns-in-Ok
returns-in-Ok c = along_is (the_list c.args.self.now) (c.in_ok-i.i.now, c.in_ok-i.j.now, c.in_ok-i.k.now) c.in-Ok.direction
    c.in_ok-i.ensures c.in-Ok.ensures

pub returns-in-Err : goal.returns-in-Err
returns-in-Err c d = along_refused (the_list c.args.self.now) (c.in_ok-i.i.now, c.in_ok-i.j.now, c.in_ok-i.k.now) d c.in-Err.field-0
    c.in_ok-i.ensures c.in-Err.ensures
