use Rattle.dme_tags.proofs.Tables.{standard, no_standard, event}
use Rattle.dme_tags.proofs.laws.client_draws_the_same.Goals as goal

pub returns-clause-standard : goal.returns-clause-standard
returns-clause-standard c = standard

pub returns-clause-no_standard : goal.returns-clause-no_standard
returns-clause-no_standard c = no_standard

pub returns-clause-event : goal.returns-clause-event
returns-clause-event c = event
