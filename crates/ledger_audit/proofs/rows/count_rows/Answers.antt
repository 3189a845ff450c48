use Rattle.ledger_audit.proofs.WorkedRows.{behind_the_program_is, one_fewer_is_not, nothing_done_is, one_more_is_not}
use Rattle.ledger_audit.proofs.rows.count_rows.Goals as goal

pub returns-clause-behind_the_program : goal.returns-clause-behind_the_program
returns-clause-behind_the_program c = behind_the_program_is

pub returns-clause-one_fewer : goal.returns-clause-one_fewer
returns-clause-one_fewer c = one_fewer_is_not

pub returns-clause-nothing_done : goal.returns-clause-nothing_done
returns-clause-nothing_done c = nothing_done_is

pub returns-clause-one_more : goal.returns-clause-one_more
returns-clause-one_more c = one_more_is_not
