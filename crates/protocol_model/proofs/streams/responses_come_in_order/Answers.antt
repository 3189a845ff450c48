use Rattle.protocol_model.proofs.written_lines.Streams.{responses_in_order}
use Rattle.protocol_model.proofs.streams.responses_come_in_order.Goals as goal

pub returns : goal.returns
returns c = responses_in_order
