use Rattle.witness_laws.proofs.orders.More.{ups_report_first, unanswered_report_nothing}
use Rattle.witness_laws.proofs.order_laws.unanswered_lines_report_nothing.Goals as goal

pub returns : goal.returns
returns c = record { order = ups_report_first; ledger = unanswered_report_nothing }
