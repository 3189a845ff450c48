use Rattle.line_framing.proofs.FirstLine.{one_next}
use Rattle.line_framing.proofs.laws.one_front.Goals as goal

pub returns-clause-one : goal.returns-clause-one
returns-clause-one c = one_next
