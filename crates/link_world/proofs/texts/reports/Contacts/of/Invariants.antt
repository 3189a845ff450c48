use Rattle.link_world.proofs.Names.{◌++◌, ◌≡◌, contacts, drop, length, numbered_from, reported}
use Rattle.link_world.proofs.texts.reports.Contacts.of.Given as goal

-- what is copied and what is left are all contacts
abbrev pub invariant-loop-connection : goal.invariant-loop-connection
invariant-loop-connection l =
    l.items.items ++ numbered_from (length l.items.items) (contacts (drop l.connection-index l.ledger)) ≡ reported l.ledger
