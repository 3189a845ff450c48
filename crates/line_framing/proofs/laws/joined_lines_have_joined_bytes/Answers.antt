use Rattle.line_framing.proofs.Streams.{line_bytes-append}
use Rattle.line_framing.proofs.laws.joined_lines_have_joined_bytes.Goals as goal

pub returns : goal.returns
returns c = line_bytes-append
