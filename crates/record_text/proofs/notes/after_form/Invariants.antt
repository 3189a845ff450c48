use Rattle.std.proofs.Common.{◌≡◌, length}
use Rattle.record_text.specs.Notes.{after_form}
use Rattle.record_text.proofs.notes.after_form.Given as goal

abbrev pub invariant-loop-left : goal.invariant-loop-left
invariant-loop-left l = after_form l.fn.form l.fn.text ≡ after_form l.left l.rest

abbrev pub decreases-loop-left : goal.decreases-loop-left
decreases-loop-left l = length l.left
