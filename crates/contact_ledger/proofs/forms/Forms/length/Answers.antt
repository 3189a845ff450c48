use Rattle.contact_ledger.proofs.Names.{◌∙◌, ◌≡◌, sym, written}
use Rattle.contact_ledger.proofs.Leaves.{length_read, length_refused, not_same}
use Rattle.contact_ledger.proofs.forms.Forms.length.Goals as goal

pub returns-in_default : goal.returns-in_default
returns-in_default c z h = length_refused c.args.field.now c.wire_limit.result c.in_default.field-0 z c.wire_limit.ensures
    c.in_default.ensures h.0 h.1

pub returns-then-ne : goal.returns-then-ne
returns-then-ne c z h =
    let same = length_read c.args.field.now c.wire_limit.result c.in-Ok.length z c.wire_limit.ensures c.in-Ok.ensures h.0 h.1 in
    let text = c.write_um_reserved.ensures.text in
    let items = c.clear.ensures.items in
    let written_again : c.as_slice.result.now ≡ written c.in-Ok.length = c.as_slice.ensures.value ∙ rw items at text in
    not_same c.as_slice.result.now c.args.field.now c.if-ne.ensures (written_again ∙ rw same (sym h.1))
