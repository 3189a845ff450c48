use Rattle.contact_ledger.proofs.OpeningLines.{point_found}
use Rattle.contact_ledger.proofs.forms.Forms.point_line.Goals as goal

pub returns : goal.returns
returns c = point_found c.args.line.now c.first_field.result.0.now c.in_ok-y.y.now c.in_ok-z.z.now c.first_field.result.1.now
    c.in_ok-y.rest.now c.in_ok-z.rest.now c.in_ok-x.x c.in_ok-y-2.y c.in_ok-z-2.z c.first_field.ensures c.in_ok-y.ensures c.in_ok-z.ensures
    c.in-None.ensures c.in_ok-x.ensures c.in_ok-y-2.ensures c.in_ok-z-2.ensures
