use Rattle.run_session.proofs.Growing.{last_lines, none_more}
use Rattle.run_session.proofs.examples.list_rows.Goals as goal

pub returns-clause-last : goal.returns-clause-last
returns-clause-last c = last_lines

pub returns-clause-other : goal.returns-clause-other
returns-clause-other c = none_more
