use Rattle.witness.proofs.ToldNames.{◌∙◌, ap, arith, Err, TextFault}
use Rattle.witness.proofs.ToldReads.{line_read, lines_read, read_failed}
use Rattle.contact_ledger.proofs.FailedReads.{failed_read}
use Rattle.witness.proofs.told_texts.read_told.Goals as goal

pub loop-line-preserved : goal.loop-line-preserved
loop-line-preserved c =
    let i = c.loop-line.invariant in
    let new = c.in_ok-add_line.ensures.added in
    let step = line_read _ _ c.in-Some-cut_line.line.now c.loop-line.number c.loop-line.ledger c.add_line.new.ledger new.0
    (i.left ∙ c.in-Some-cut_line.ensures.cut) i.read i.entries i.up new.1 new.2 new.3 new.4 in
    let shorter = c.in-Some-cut_line.ensures.shorter in
    let count = i.count in
    record {
      left = step.left;
      read = step.read;
      entries = step.entries;
      up = step.up;
      count = omega (arith, shorter, count);
    }

pub returns : goal.returns
returns c =
    let i = c.loop-line.invariant in
    lines_read c.args.bytes.now c.loop-line.number c.loop-line.ledger (i.left ∙ c.in_default-cut_line.ensures.cut) i.read i.entries i.up

pub returns-in_err-add_line : goal.returns-in_err-add_line
returns-in_err-add_line c =
    let i = c.loop-line.invariant in
    let failed = read_failed c.args.bytes.now _ c.in-Some-cut_line.line.now c.loop-line.number c.loop-line.ledger
    c.in_err-add_line.field-0.0 (i.left ∙ c.in-Some-cut_line.ensures.cut) i.read i.entries i.up
    (λ m e. c.in_err-add_line.ensures.damaged m (ap (λ (x : TextFault). Err x) e)) in
    failed_read c.from_residual-in_err-add_line.result c.in_err-add_line.field-0.0 _ _ c.from_residual-in_err-add_line.ensures.0
    c.from_residual-in_err-add_line.ensures.1 failed
