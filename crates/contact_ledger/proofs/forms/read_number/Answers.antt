use Rattle.std.proofs.Common.{◌≡◌, sym, ◌∙◌, arith}
use Rattle.contact_ledger.proofs.Leaves.{number_is_text, number_read, not_same}
use Rattle.contact_ledger.proofs.forms.read_number.Goals as goal
use Rattle.contact_ledger.proofs.forms.read_number.Goals.{then-number-lt1-via-then-number-lt1, then-number-lt1-via-else-number-lt1+then-number-most}
use Rattle.contact_ledger.proofs.forms.read_number.Goals.{then-number-lt1-via-else-number-lt1+else-number-most+then-ne}

pub returns-in_default : goal.returns-in_default
returns-in_default c n h = c.in_default.ensures.cases.0 (number_is_text c.args.field.now n c.args.most c.ranges.most.fits h.1 h.2)

pub returns-in_default-parse : goal.returns-in_default-parse
returns-in_default-parse c n h =
    let read = number_read c.in-Ok.text.now n c.args.most c.parse.result c.ranges.most.fits h.1 (c.in-Ok.ensures.cases.0 ∙ h.2)
    c.parse.ensures.value.0 in
    c.in_default-parse.not-Ok n read

pub returns-then-number-lt1 : goal.returns-then-number-lt1
returns-then-number-lt1 c n h =
    let read = number_read c.in-Ok.text.now n c.args.most c.parse.result c.ranges.most.fits h.1 (c.in-Ok.ensures.cases.0 ∙ h.2)
    c.parse.ensures.value.0 in
    let same : c.in-Ok-parse.number ≡ n = let e = sym c.in-Ok-parse.is ∙ read in cc in
    elim c.then-number-lt1.branch [
      | then-number-lt1-via-then-number-lt1 w ↦ let l = w.if-number-lt1.true in omega (arith, same, h.0)
      | then-number-lt1-via-else-number-lt1+then-number-most w ↦ let l = w.if-number-most.true in omega (arith, same, h.1)
      | then-number-lt1-via-else-number-lt1+else-number-most+then-ne w ↦
          not_same w.as_bytes.result.now c.args.field.now w.if-ne.ensures
          (w.as_bytes.ensures.value ∙ w.format.ensures.text ∙ rw same (sym h.2))
    ]
