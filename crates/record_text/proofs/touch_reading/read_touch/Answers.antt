use Rattle.record_text.proofs.Names.{◌∙◌, same_word}
use Rattle.record_text.proofs.RecordFields.{touch_found}
use Rattle.record_text.proofs.touch_reading.read_touch.Goals as goal

pub returns : goal.returns
returns c = touch_found c.args.line.now c.first_field.result.0.now _ c.read_fields.result c.first_field.ensures
    (same_word _ _ c.if-ne.ensures ∙ c.as_slice.ensures) c.read_fields.ensures
