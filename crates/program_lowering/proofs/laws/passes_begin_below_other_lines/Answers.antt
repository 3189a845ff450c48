use Rattle.program_lowering.proofs.PassLemmas.{as_statements, one_pass}
use Rattle.program_lowering.proofs.laws.passes_begin_below_other_lines.Goals as goal

pub returns-clause-one : goal.returns-clause-one
returns-clause-one c = one_pass

pub returns-clause-each : goal.returns-clause-each
returns-clause-each c = as_statements
