use Rattle.witness.proofs.TextPieces.{told_written}
use Rattle.witness.proofs.writing.add_told.Goals as goal

pub returns : goal.returns
returns c = told_written c.args.text.now.items _ _ _ c.args.connection c.args.report.now
    (rw (c.as_bytes.ensures.value, c.format.ensures.text) at c.in_ok-extend_from_slice.ensures.items)
    c.in_ok-add_fields.ensures c.in_ok-push.ensures.items
