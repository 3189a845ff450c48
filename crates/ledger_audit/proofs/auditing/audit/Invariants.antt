use Rattle.std.proofs.Common.{◌≤◌, length, take}
use Rattle.ledger_audit.proofs.Greedy.{AreEarliest}
use Rattle.ledger_audit.proofs.auditing.audit.Given as goal

-- the starts so far are the earliest ones, and their runs end among the contacts
abbrev pub invariant-loop-index : goal.invariant-loop-index
invariant-loop-index l = AreEarliest l.wanted (take l.index l.features) l.contacts.items l.starts l.least
    × (l.least ≤ length l.contacts.items)
