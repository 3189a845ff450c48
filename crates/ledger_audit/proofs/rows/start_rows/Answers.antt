use Rattle.ledger_audit.proofs.WorkedRows.{first_is, second_is, least_is, second_is_not_least, none_are_not_least}
use Rattle.ledger_audit.proofs.rows.start_rows.Goals as goal

pub returns-clause-first : goal.returns-clause-first
returns-clause-first c = first_is

pub returns-clause-second : goal.returns-clause-second
returns-clause-second c = second_is

pub returns-clause-least : goal.returns-clause-least
returns-clause-least c = least_is

pub returns-clause-not_least : goal.returns-clause-not_least
returns-clause-not_least c = second_is_not_least

pub returns-clause-no_start : goal.returns-clause-no_start
returns-clause-no_start c = none_are_not_least
