use Rattle.protocol_model.proofs.worked_rows.Refused.{one_contact_serves_once, no_contact_is_left_out}
use Rattle.protocol_model.proofs.examples.claim_rows.Goals as goal

pub returns-clause-one_contact : goal.returns-clause-one_contact
returns-clause-one_contact c = one_contact_serves_once

pub returns-clause-left_out : goal.returns-clause-left_out
returns-clause-left_out c = no_contact_is_left_out
