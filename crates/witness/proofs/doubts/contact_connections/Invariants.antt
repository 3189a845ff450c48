use Rattle.witness.proofs.ToldNames.{◌++◌, ◌≡◌, drop, known_contacts, map, parts_of}
use Rattle.witness.proofs.doubts.contact_connections.Given as goal

-- the connections so far, and those of the contacts that are left
abbrev pub invariant-loop-connection : goal.invariant-loop-connection
invariant-loop-connection l = l.all.items ++ map (λ m. m.connection) (known_contacts (parts_of (drop l.connection-index l.entries)))
    ≡ map (λ m. m.connection) (known_contacts (parts_of l.entries))
