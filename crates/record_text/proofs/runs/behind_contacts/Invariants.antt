use Rattle.record_text.proofs.Names.{◌≡◌, contacts, drop}
use Rattle.record_text.proofs.runs.behind_contacts.Given as goal

-- the contacts that are left
abbrev pub invariant-loop-at : goal.invariant-loop-at
invariant-loop-at l = drop l.left (contacts (drop l.at l.acts)) ≡ drop l.count (contacts l.acts)
