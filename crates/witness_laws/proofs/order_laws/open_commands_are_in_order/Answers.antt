use Rattle.witness_laws.proofs.orders.Counts.{said_counted, counted_after}
use Rattle.witness_laws.proofs.order_laws.open_commands_are_in_order.Goals as goal

pub returns : goal.returns
returns c = record { all = counted_after; line = said_counted }
