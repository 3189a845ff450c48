use Rattle.dmis_program.proofs.ParenthesisLemmas.{written, only}
use Rattle.dmis_program.proofs.laws.names_stand_in_parentheses.Goals as goal

pub returns-clause-written : goal.returns-clause-written
returns-clause-written c = written

pub returns-clause-only : goal.returns-clause-only
returns-clause-only c = only
