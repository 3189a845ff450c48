use Rattle.contact_ledger.proofs.EntryWrites.{entry_written}
use Rattle.contact_ledger.proofs.contact_writing.add_entry.Goals as goal

pub returns-clause-text : goal.returns-clause-text
returns-clause-text c = entry_written c.args.text.now.items _ _ _ c.args.connection c.args.act.now
    (rw (c.as_bytes.ensures.value, c.format.ensures.text) at c.in_ok-extend_from_slice.ensures.items)
    c.in_ok-add_act.ensures.text c.in_ok-push.ensures.items
