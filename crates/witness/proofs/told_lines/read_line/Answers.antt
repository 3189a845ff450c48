use Rattle.witness.proofs.OtherLines.{act_found, no_number, no_told, told_found}
use Rattle.witness.proofs.told_lines.read_line.Goals as goal

pub returns-in_default : goal.returns-in_default
returns-in_default c e h =
    no_number c.args.line.now c.first_field.result.0.now c.first_field.result.1.now e.0 e.1 c.first_field.ensures c.in_default.ensures h.0 h.1

pub returns-in-Some-2 : goal.returns-in-Some-2
returns-in-Some-2 c =
    told_found c.args.line.now c.first_field.result.0.now c.first_field.result.1.now c.in-Some.connection c.in-Some-2.told
    c.first_field.ensures c.in-Some.ensures (rw c.in-Some-2.is at c.in_ok-told.ensures)

pub returns-in_default-3 : goal.returns-in_default-3
returns-in_default-3 c e h =
    no_told c.args.line.now c.first_field.result.0.now c.first_field.result.1.now e.0 e.1
    (rw c.in_default-3.is at c.in_ok-connection.ensures) c.first_field.ensures (rw c.in_default-2.is at c.in_ok-told.ensures) h.0 h.1

pub returns : goal.returns
returns c =
    let found = rw c.in-Some-3.is at c.in_ok-connection.ensures in
    act_found c.args.line.now c.first_field.result.0.now c.first_field.result.1.now c.in-Some-3.connection c.in-Some-3.act
    c.first_field.ensures (rw c.in_default-2.is at c.in_ok-told.ensures) found.0 found.1
