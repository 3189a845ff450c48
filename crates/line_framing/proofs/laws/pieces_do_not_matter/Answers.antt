use Rattle.line_framing.proofs.CallLists.{same_lines}
use Rattle.line_framing.proofs.laws.pieces_do_not_matter.Goals as goal

pub returns : goal.returns
returns c = same_lines
