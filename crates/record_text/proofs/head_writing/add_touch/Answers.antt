use Rattle.record_text.proofs.Names.{codes, entry_written, touch_fields}
use Rattle.record_text.proofs.head_writing.add_touch.Goals as goal

pub returns-clause-text : goal.returns-clause-text
returns-clause-text c = entry_written c.args.text.now.items _ _ _ (codes "TOUCH") (touch_fields c.args.touch.now)
    c.in_ok-extend_from_slice.ensures.items c.in_ok-add_touch_fields.ensures.text c.in_ok-push.ensures.items
