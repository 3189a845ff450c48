use Rattle.record_text.proofs.RecordFields.{no_entry}
use Rattle.record_text.proofs.entry_reading.read_line.Goals as goal

pub returns : goal.returns
returns c a h = no_entry c.args.line.now a (rw c.in_default.is at c.in_ok-connection.ensures)
    (rw c.in_default-2.is at c.in_ok-connection-2.ensures) (rw c.in_default-3.is at c.in_ok-connection-3.ensures) h
