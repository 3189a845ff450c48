use Rattle.record_text.proofs.Names.{◌∙◌, same_word}
use Rattle.record_text.proofs.RecordFields.{feature_found}
use Rattle.record_text.proofs.touch_reading.read_opening.Goals as goal

pub returns : goal.returns
returns c = feature_found c.args.line.now c.first_field.result.0.now c.in-Some.label.now c.in-Some-next_field.count.now
    c.first_field.result.1.now c.in-Some.rest.now c.in-Some-next_field.rest.now c.in-Some-2.label c.in-Some-read_number.count
    c.first_field.ensures (same_word _ _ c.if-ne.ensures ∙ c.as_slice.ensures) c.in-Some.ensures c.in-Some-next_field.ensures
    c.in-None.ensures c.in-Some-read_number.ensures (rw c.in-Some-2.is at c.in_ok-label.ensures)
