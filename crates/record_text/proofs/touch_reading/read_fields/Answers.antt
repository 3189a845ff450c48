use Rattle.record_text.proofs.RecordFields.{touch_ends, no_frame}
use Rattle.record_text.proofs.touch_reading.read_fields.Goals as goal

pub returns-in_default-frame : goal.returns-in_default-frame
returns-in_default-frame c a h =
    no_frame _ c.in-Some-next_field.tool.now a (touch_ends _ _ _ _ c.in-Some.target c.in-Some-direction.dir
    c.in-Some-next_field.tool.now a c.in-Some.ensures.1 c.in-Some-direction.ensures.1 c.in-Some-next_field.ensures h.1) h.0.frame
    c.in_default-frame.ensures
