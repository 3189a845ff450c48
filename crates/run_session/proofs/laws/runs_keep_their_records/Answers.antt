use Rattle.run_session.proofs.Filing.{new_kept}
use Rattle.run_session.proofs.Moments.{contacts, killed, told, whole}
use Rattle.run_session.proofs.laws.runs_keep_their_records.Goals as goal

pub returns-clause-begins : goal.returns-clause-begins
returns-clause-begins c = new_kept

pub returns-clause-whole : goal.returns-clause-whole
returns-clause-whole c = whole

pub returns-clause-killed : goal.returns-clause-killed
returns-clause-killed c = killed

pub returns-clause-told : goal.returns-clause-told
returns-clause-told c = told

pub returns-clause-contacts : goal.returns-clause-contacts
returns-clause-contacts c = contacts
