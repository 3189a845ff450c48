use Rattle.record_text.proofs.Names.{◌∙◌, ap, arith, Err, RecordFault}
use Rattle.record_text.proofs.StageRuns.{line_read, torn_read, line_nowhere, handed_on, still_open, done_read}
use Rattle.record_text.proofs.head_reading.read_head.Goals as goal

pub loop-line-preserved : goal.loop-line-preserved
loop-line-preserved c =
    let i = c.loop-line.invariant in
    let step = line_read _ _ c.in-Some-cut_line.line.now c.loop-line.number _ _ (i.left ∙ c.in-Some-cut_line.ensures.cut) i.read
    c.in_ok-place.ensures.next in
    let shorter = c.in-Some-cut_line.ensures.shorter in
    let count = i.count in
    record {
      left = step.0;
      read = step.1;
      count = omega (arith, shorter, count);
      continues = still_open c.in_ok-place.place c.in_default-place.not-Done;
      valid = c.in_ok-place.ensures.valid;
    }

pub returns-in_err-place-clause-damaged : goal.returns-in_err-place-clause-damaged
returns-in_err-place-clause-damaged c n e =
    let i = c.loop-line.invariant in
    let same = handed_on c.from_residual-in_err-place.result c.in_err-place.field-0.0 n c.from_residual-in_err-place.ensures.1 e in
    let bad = c.in_err-place.ensures.damaged n (ap (λ (x : RecordFault). Err x) same) in
    line_nowhere c.args.bytes.now _ c.in-Some-cut_line.line.now c.loop-line.number n _ bad.0
    (i.left ∙ c.in-Some-cut_line.ensures.cut) i.read bad.1

pub returns-in-Done-clause-head : goal.returns-in-Done-clause-head
returns-in-Done-clause-head c =
    let i = c.loop-line.invariant in
    let step = line_read _ _ c.in-Some-cut_line.line.now c.loop-line.number _ _ (i.left ∙ c.in-Some-cut_line.ensures.cut) i.read
    c.in_ok-place.ensures.next in
    let shorter = c.in-Some-cut_line.ensures.shorter in
    let count = i.count in
    record {
      left = step.0;
      read = done_read _ c.head_line.new.head c.in_ok-place.place c.in-Done.is step.1;
      count = omega (arith, shorter, count);
    }

pub returns-clause-torn : goal.returns-clause-torn
returns-clause-torn c =
    let i = c.loop-line.invariant in
    torn_read c.args.bytes.now c.loop-line.number c.loop-line.head c.loop-line.place (i.left ∙ c.in_default-cut_line.ensures.cut) i.read
    i.continues i.valid
