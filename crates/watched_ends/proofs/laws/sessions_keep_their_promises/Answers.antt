use Rattle.watched_ends.proofs.Living.{kept, comes, last}
use Rattle.watched_ends.proofs.laws.sessions_keep_their_promises.Goals as goal

pub returns-clause-kept : goal.returns-clause-kept
returns-clause-kept c = kept

pub returns-clause-comes : goal.returns-clause-comes
returns-clause-comes c = comes

pub returns-clause-last : goal.returns-clause-last
returns-clause-last c = last
