use Rattle.record_text.proofs.EntryReads.{no_entry_line}
use Rattle.record_text.proofs.record_reading.add_line.Goals as goal

pub returns-clause-damaged : goal.returns-clause-damaged
returns-clause-damaged c n e =
    let found = rw c.in-Some.is at c.in_ok-entry.ensures in
    let bad = c.follow.ensures.damaged n e in
    (bad.0, λ new h. no_entry_line c.args.asked.now c.args.body.now new c.args.line.now c.in-Some.entry found.0 found.1 bad.1 h)
