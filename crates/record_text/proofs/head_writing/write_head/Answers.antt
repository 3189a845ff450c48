use Rattle.record_text.specs.Heads.{asked_lines}
use Rattle.record_text.proofs.HeadLines.{head_written, writes_all}
use Rattle.record_text.proofs.head_writing.write_head.Goals as goal

pub returns-clause-writes : goal.returns-clause-writes
returns-clause-writes c = writes_all c.extend_from_slice-3.result c.args.out.now.items _ _ _
    c.extend_from_slice-3.ensures.items
    (rw c.as_slice.ensures.value (head_written _ _ _ _ _ (asked_lines c.args.program.now.features)
    (rw c.new-text.ensures.items at c.in_ok-extend_from_slice.ensures.items) c.in_ok-add_part.ensures
    (rw c.features.ensures.features at c.in_ok-add_asked.ensures.text) c.in_ok-extend_from_slice-2.ensures.items))
