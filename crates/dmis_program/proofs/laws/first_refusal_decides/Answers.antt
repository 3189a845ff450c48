use Rattle.dmis_program.proofs.OrderLemmas.{refused_behind, endless_behind, accepted_behind}
use Rattle.dmis_program.proofs.laws.first_refusal_decides.Goals as goal

pub returns-clause-refused : goal.returns-clause-refused
returns-clause-refused c = refused_behind

pub returns-clause-endless : goal.returns-clause-endless
returns-clause-endless c = endless_behind

pub returns-clause-accepted : goal.returns-clause-accepted
returns-clause-accepted c = accepted_behind
