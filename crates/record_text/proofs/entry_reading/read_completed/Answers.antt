use Rattle.record_text.proofs.Names.{◌∙◌, same_word}
use Rattle.record_text.proofs.RecordFields.{completed_found}
use Rattle.record_text.proofs.entry_reading.read_completed.Goals as goal

pub returns : goal.returns
returns c = completed_found c.args.line.now c.first_field.result.0.now c.in-Some.word.now c.in-Some-next_field.label.now
    c.first_field.result.1.now c.in-Some.rest.now c.in-Some-next_field.rest.now c.in-Some-2.label c.in-Some-read_number.connection
    c.first_field.ensures c.in-Some.ensures (same_word _ _ c.if-ne.ensures ∙ c.as_slice.ensures) c.in-Some-next_field.ensures
    c.in-None.ensures c.in-Some-read_number.ensures (rw c.in-Some-2.is at c.in_ok-label.ensures)
