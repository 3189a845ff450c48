use Rattle.line_framing.proofs.Streams.{one_stream, some_stream}
use Rattle.line_framing.proofs.laws.one_stream.Goals as goal

pub returns-clause-some : goal.returns-clause-some
returns-clause-some c = some_stream

pub returns-clause-one : goal.returns-clause-one
returns-clause-one c = one_stream
