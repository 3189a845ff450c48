use Rattle.witness_laws.proofs.orders.Commands.{swap_all, swap_command}
use Rattle.witness_laws.proofs.order_laws.commands_may_be_read_before_earlier_replies.Goals as goal

pub returns : goal.returns
returns c = record { all = swap_all; command = swap_command }
