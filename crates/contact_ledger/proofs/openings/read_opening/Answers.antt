use Rattle.std.proofs.Common.{◌∙◌}
use Rattle.contact_ledger.proofs.OpeningLines.{opening_found}
use Rattle.contact_ledger.proofs.Leaves.{same_word}
use Rattle.contact_ledger.proofs.openings.read_opening.Goals as goal

pub returns : goal.returns
returns c =
    opening_found c.args.line.now c.first_field.result.0.now c.in-Some.label.now c.in-Some-next_field.count.now c.first_field.result.1.now
    c.in-Some.rest.now c.in-Some-next_field.rest.now c.in-Some-2.label c.in-Some-read_number.count c.args.version
    c.in-Some-origin.origin c.first_field.ensures (same_word _ _ c.if-ne.ensures ∙ c.as_slice.ensures) c.in-Some.ensures
    c.in-Some-next_field.ensures c.in-Some-read_number.ensures c.in-Some-origin.ensures
    (rw c.in-Some-2.is at c.in_ok-label.ensures)
