use Rattle.ledger_audit.proofs.SearchLaws.{asked_read}
use Rattle.ledger_audit.proofs.probings.asked.Goals as goal

pub returns : goal.returns
returns c =
    asked_read c.args.touches.now c.args.points.now c.args.number c.index-touches-number.result c.index-points-number.result
    c.requires.touch c.requires.point c.index-touches-number.is c.index-points-number.is
