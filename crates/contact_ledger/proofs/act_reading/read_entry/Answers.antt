use Rattle.contact_ledger.proofs.EntryLines.{no_number, no_act, entry_found}
use Rattle.contact_ledger.proofs.act_reading.read_entry.Goals as goal

pub returns-in_default : goal.returns-in_default
returns-in_default c e h =
    no_number c.args.line.now c.first_field.result.0.now c.first_field.result.1.now e.0 e.1 c.first_field.ensures c.in_default.ensures
    h.0 h.1

pub returns-in_default-2 : goal.returns-in_default-2
returns-in_default-2 c e h =
    no_act c.args.line.now c.first_field.result.0.now c.first_field.result.1.now e.0 e.1 c.first_field.ensures
    (rw c.in_default-2.is at c.in_ok-act.ensures) h.0 h.1

pub returns : goal.returns
returns c =
    entry_found c.args.line.now c.first_field.result.0.now c.first_field.result.1.now c.in-Some.connection c.in-Some-2.act
    c.first_field.ensures c.in-Some.ensures (rw c.in-Some-2.is at c.in_ok-act.ensures)
