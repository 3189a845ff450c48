use Rattle.link_world.proofs.Names.{◌++◌, ◌≡◌, contact_rows, drop}
use Rattle.link_world.proofs.texts.report_text.push_contacts.Given as goal

-- what is written and what is left are all rows
abbrev pub invariant-loop-contact : goal.invariant-loop-contact
invariant-loop-contact l =
    l.text.items ++ contact_rows (drop l.contact-index l.contacts) ≡ l.fn.text.items ++ contact_rows l.contacts
