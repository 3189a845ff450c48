use Rattle.line_framing.proofs.FirstLine.{found}
use Rattle.line_framing.proofs.laws.found_line_stood_there.Goals as goal

pub returns : goal.returns
returns c = found
