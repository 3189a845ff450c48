use Rattle.contact_ledger.proofs.ContactLaws.{one_contacts, never_both}
use Rattle.contact_ledger.proofs.contact_laws.acts_are_read_in_one_way.Goals as goal

pub returns-clause-one : goal.returns-clause-one
returns-clause-one c = one_contacts

pub returns-clause-whole : goal.returns-clause-whole
returns-clause-whole c = never_both
