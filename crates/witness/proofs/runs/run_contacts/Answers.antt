use Rattle.std.proofs.lemmas.List.{drop_all}
use Rattle.witness.proofs.NextContacts.{all_read}
use Rattle.witness.proofs.runs.run_contacts.Goals as goal

pub returns : goal.returns
returns c =
    all_read c.entries-entries.result.now c.args.told.now c.loop-connection.numbering.ledger c.loop-connection.numbering.second
    c.loop-connection.numbering.open_on c.loop-connection.connection-index c.entries-entries.ensures
    (drop_all c.loop-connection.connection-index c.entries-entries.result.now c.loop-connection-test.false) c.loop-connection.invariant
