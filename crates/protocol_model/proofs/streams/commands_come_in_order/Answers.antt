use Rattle.protocol_model.proofs.written_lines.Streams.{commands_in_order}
use Rattle.protocol_model.proofs.streams.commands_come_in_order.Goals as goal

pub returns : goal.returns
returns c = commands_in_order
