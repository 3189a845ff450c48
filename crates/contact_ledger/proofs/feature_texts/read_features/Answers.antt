use Rattle.contact_ledger.proofs.Names.{◌∙◌, ap, arith, Err, TextFault}
use Rattle.contact_ledger.proofs.FailedReads.{failed_read}
use Rattle.contact_ledger.proofs.FeatureReads.{lines_read, line_read, read_failed, read_written}
use Rattle.contact_ledger.proofs.feature_texts.read_features.Goals as goal

pub loop-line-preserved : goal.loop-line-preserved
loop-line-preserved c =
    let i = c.loop-line.invariant in
    let step = line_read _ _ c.in-Some.line.now c.loop-line.number c.loop-line.features c.behind_line.new.features c.loop-line.place
    c.in_ok-place.place (i.left ∙ c.in-Some.ensures.cut) i.read c.in_ok-place.ensures.next in
    let shorter = c.in-Some.ensures.shorter in
    let count = i.count in
    record {
      left = step.0;
      read = step.1;
      sound = c.in_ok-place.ensures.sound;
      count = omega (arith, shorter, count);
    }

pub returns-clause-writable : goal.returns-clause-writable
returns-clause-writable c = read_written _ c.loop-line.features c.loop-line.place c.loop-line.invariant.read

pub returns-clause-read : goal.returns-clause-read
returns-clause-read c =
    let i = c.loop-line.invariant in
    lines_read c.args.bytes.now c.loop-line.number c.loop-line.features c.loop-line.place (i.left ∙ c.in_default.ensures.cut) i.read

pub returns-in_err-place-clause-read : goal.returns-in_err-place-clause-read
returns-in_err-place-clause-read c =
    let i = c.loop-line.invariant in
    let failed = read_failed c.args.bytes.now _ c.in-Some.line.now c.loop-line.number c.loop-line.features c.loop-line.place
    c.in_err-place.field-0.0 (i.left ∙ c.in-Some.ensures.cut) i.read
    (λ m e. c.in_err-place.ensures.damaged m (ap (λ (x : TextFault). Err x) e)) in
    failed_read c.from_residual-in_err-place.result c.in_err-place.field-0.0 _ _ c.from_residual-in_err-place.ensures.0
    c.from_residual-in_err-place.ensures.1 failed
