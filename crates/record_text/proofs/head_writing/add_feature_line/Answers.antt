use Rattle.std.specs.Prelude.{decimal}
use Rattle.record_text.proofs.HeadLines.{feature_line_written}
use Rattle.record_text.proofs.head_writing.add_feature_line.Goals as goal

pub returns-clause-text : goal.returns-clause-text
returns-clause-text c = feature_line_written c.args.text.now.items _ _ _ _ c.args.label.now (decimal c.args.count)
    c.in_ok-extend_from_slice.ensures.items c.in_ok-add_name.ensures.text c.in_ok-add_number.ensures c.in_ok-push.ensures.items
