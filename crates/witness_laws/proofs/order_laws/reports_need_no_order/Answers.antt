use Rattle.witness_laws.proofs.orders.Sorting.{same_sorted}
use Rattle.witness_laws.proofs.order_laws.reports_need_no_order.Goals as goal

pub returns : goal.returns
returns c = λ lines clear. same_sorted lines clear.0 clear.1
