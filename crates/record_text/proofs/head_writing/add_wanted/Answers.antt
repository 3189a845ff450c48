use Rattle.record_text.proofs.Names.{feature_line, length, map, text_of, then_ok, touch_line}
use Rattle.record_text.proofs.HeadLines.{line_then}
use Rattle.record_text.proofs.head_writing.add_wanted.Goals as goal

pub returns-clause-text : goal.returns-clause-text
returns-clause-text c = then_ok c.add_touches.result (λ h.
    line_then c.args.text.now.items (feature_line c.args.wanted.now.label (length c.args.wanted.now.touches))
    (text_of (map touch_line c.args.wanted.now.touches)) _ _ (rw c.as_slice.ensures at c.in_ok-add_feature_line.ensures.text) h)
    (rw c.as_slice-2.ensures at c.add_touches.ensures.text)
