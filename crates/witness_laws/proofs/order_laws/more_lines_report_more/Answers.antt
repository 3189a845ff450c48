use Rattle.witness_laws.proofs.orders.More.{more_report, ledgers_grow, some_report}
use Rattle.witness_laws.proofs.order_laws.more_lines_report_more.Goals as goal

pub returns : goal.returns
returns c = record { order = more_report; ledger = ledgers_grow; either = λ lines more clear. some_report lines more clear.0 clear.1 }
