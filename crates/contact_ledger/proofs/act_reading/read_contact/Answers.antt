use Rattle.contact_ledger.proofs.EntryLines.{no_contact}
use Rattle.contact_ledger.proofs.act_reading.read_contact.Goals as goal

pub returns-in_default-point : goal.returns-in_default-point
returns-in_default-point c a h =
    no_contact _ _ _ _ _ c.in-Some.target c.in-Some-direction.dir c.in-Some-next_field.tool.now c.in-Some-frame.frame a
    c.in-Some.ensures.1 c.in-Some-direction.ensures.1 c.in-Some-next_field.ensures c.in-Some-frame.ensures.1
    c.in_default-point.ensures h.0 h.1
