use Rattle.witness_laws.proofs.orders.Clearing.{one_use_is_clear, no_refusal_is_clear}
use Rattle.witness_laws.proofs.order_laws.orders_are_clear.Goals as goal

pub returns : goal.returns
returns c = record { tags = one_use_is_clear; refusals = no_refusal_is_clear }
