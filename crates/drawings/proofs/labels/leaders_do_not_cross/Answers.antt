use Rattle.std.proofs.Common.{arith}
use Rattle.drawings.proofs.Lines.{begins, none_crosses}
use Rattle.drawings.proofs.labels.leaders_do_not_cross.Goals as goal

pub returns : goal.returns
returns c plan marks order lines ordered highest = none_crosses 0 0 26000 order lines (omega arith) (begins order) ordered.sorted highest.may
