use Rattle.record_text.proofs.Names.{AreRecordLines, Recorded, subst, sym, whole_lines}
use Rattle.record_text.proofs.EntryReads.{record_after, damaged_after, fault_read}
use Rattle.record_text.proofs.StageReads.{unbegun, bad_head}
use Rattle.record_text.proofs.record_reading.read_record.Goals as goal

pub returns-in_err-head : goal.returns-in_err-head
returns-in_err-head c = fault_read c.args.bytes.now c.from_residual-in_err-head.result c.in_err-head.field-0.0
    c.from_residual-in_err-head.ensures.0 c.from_residual-in_err-head.ensures.1
    (λ n e. bad_head c.args.bytes.now n (c.in_err-head.ensures.damaged n e))

pub returns-in_default : goal.returns-in_default
returns-in_default c = unbegun c.args.bytes.now (rw c.in_default.is at c.in_ok-head.ensures.torn)

pub returns-in_err-body : goal.returns-in_err-body
returns-in_err-body c =
    let found = rw c.in-Some.is at c.in_ok-head.ensures.head in
    fault_read c.args.bytes.now c.from_residual-in_err-body.result c.in_err-body.field-0.0 c.from_residual-in_err-body.ensures.0
    c.from_residual-in_err-body.ensures.1 (λ n e. damaged_after c.args.bytes.now c.in-Some.head c.in-Some.rest.now c.in-Some.number n found
    (c.in_err-body.ensures.damaged n e))

pub returns : goal.returns
returns c =
    let found = rw c.in-Some.is at c.in_ok-head.ensures.head in
    subst (λ (r : Recorded). AreRecordLines (whole_lines c.args.bytes.now) r) (sym c.new-2.ensures)
    (record_after c.args.bytes.now c.in-Some.head c.in-Some.rest.now c.in-Some.number c.in_ok-body.body found c.in_ok-body.ensures.read)
