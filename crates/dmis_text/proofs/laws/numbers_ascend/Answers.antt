use Rattle.dmis_text.proofs.NumberLaws.{numbered_is}
use Rattle.dmis_text.proofs.laws.numbers_ascend.Goals as goal

pub returns-clause-statements : goal.returns-clause-statements
returns-clause-statements c = λ n ls. (numbered_is n ls).0

pub returns-clause-fault : goal.returns-clause-fault
returns-clause-fault c = λ n ls. (numbered_is n ls).1
