use Rattle.witness_laws.proofs.orders.Views.{causal_swapped, clear_swapped}
use Rattle.witness_laws.proofs.order_laws.earlier_commands_keep_an_order.Goals as goal

pub returns : goal.returns
returns c = record { causal = causal_swapped; clear = clear_swapped }
