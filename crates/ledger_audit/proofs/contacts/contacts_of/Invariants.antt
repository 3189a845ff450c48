use Rattle.ledger_audit.proofs.Names.{◌++◌, ◌≡◌, contacts, drop}
use Rattle.ledger_audit.proofs.contacts.contacts_of.Given as goal

-- the contacts collected so far, and those of the acts that are left
abbrev pub invariant-loop-connection : goal.invariant-loop-connection
invariant-loop-connection l = l.made.items ++ contacts (drop l.connection-index l.acts) ≡ contacts l.acts
