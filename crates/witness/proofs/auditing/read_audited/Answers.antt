use Rattle.witness.proofs.EitherText.{report_audited}
use Rattle.witness.proofs.auditing.read_audited.Goals as goal

pub returns : goal.returns
returns c =
    report_audited c.args.bytes.now c.in_ok-told.told c.in_ok-ledger.ledger (c.is_told_file.ensures.0 c.if-not-is_told_file.false)
    c.in_ok-told.ensures c.in_ok-ledger.ensures
