use Rattle.std.proofs.Common.{ap}
use Rattle.program_flow.specs.Texts.{expanded}
use Rattle.program_flow.specs.Values.{value_of}
use Rattle.program_flow.proofs.value_examples.tables_stand_for_looking_back.Goals as goal

pub returns-clause-values : goal.returns-clause-values
returns-clause-values c = λ above entries text h. ap (λ v. value_of v text) h.values

pub returns-clause-texts : goal.returns-clause-texts
returns-clause-texts c = λ above entries text h. ap (λ v. expanded v text) h.values
