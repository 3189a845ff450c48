use Rattle.std.proofs.Common.{sym, ◌∙◌}
use Rattle.contact_ledger.proofs.Leaves.{found_direction, no_direction}
use Rattle.contact_ledger.proofs.forms.direction_of.Goals as goal

pub returns-in-Ok : goal.returns-in-Ok
returns-in-Ok c = found_direction c.args.i.now c.args.j.now c.args.k.now c.in-Ok.found c.in-Ok.ensures

pub returns-in-Err : goal.returns-in-Err
returns-in-Err c d h = no_direction c.args.i.now c.args.j.now c.args.k.now d c.read_dir.result c.read_dir.ensures h
    (λ x is. let y = sym c.in-Err.is ∙ is in absurd cc)
