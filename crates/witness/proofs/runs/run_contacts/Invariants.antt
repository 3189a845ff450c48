use Rattle.witness.proofs.ToldNames.{◌++◌, ◌≡◌, drop, None, numbered_from, parts_of, true}
use Rattle.witness.proofs.runs.run_contacts.Given as goal

-- the contacts so far, and those of the lines that are left
abbrev pub invariant-loop-connection : goal.invariant-loop-connection
invariant-loop-connection l = l.numbering.ledger
    ++ numbered_from l.numbering.second l.numbering.open_on (parts_of (drop l.connection-index l.entries))
    ≡ numbered_from true None (parts_of l.entries)
