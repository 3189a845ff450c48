use Rattle.std.proofs.Common.{rules, ◌∙◌}
use Rattle.contact_ledger.proofs.Leaves.{fields_none, written_fields, not_written_fields}
use Rattle.contact_ledger.proofs.forms.Forms.components.Goals as goal

pub returns-in_default : goal.returns-in_default
returns-in_default c d more h e =
    fields_none c.args.rest.now c.in_ok-i.rest.now c.in_ok-j.rest.now c.in_ok-k.rest.now c.in_ok-i.i.now c.in_ok-j.j.now c.in_ok-k.k.now d
    more c.in_ok-i.ensures c.in_ok-j.ensures c.in_ok-k.ensures c.in_default.ensures h e

pub returns-then-not-are_fields : goal.returns-then-not-are_fields
returns-then-not-are_fields c d more h e =
    not_written_fields c.args.rest.now c.in_ok-i.rest.now c.in_ok-j.rest.now c.in_ok-k.rest.now c.in_ok-i.i.now c.in_ok-j.j.now
    c.in_ok-k.k.now c.in-Some.direction d more c.as_slice.result.now c.in_ok-i.ensures c.in_ok-j.ensures c.in_ok-k.ensures
    c.in-Some.ensures h e
    (c.as_slice.ensures.value ∙ rw c.clear.ensures.items at c.write_dir_reserved.ensures.text)
    (λ s. let t = c.if-not-are_fields.ensures.1 s in absurd cc)

pub returns : goal.returns
returns c =
    written_fields c.args.rest.now c.in_ok-i.rest.now c.in_ok-j.rest.now c.in_ok-k.rest.now c.in_ok-i.i.now c.in_ok-j.j.now
    c.in_ok-k.k.now c.in-Some.direction c.as_slice.result.now c.in_ok-i.ensures c.in_ok-j.ensures c.in_ok-k.ensures
    c.in-Some.ensures
    (c.as_slice.ensures.value ∙ rw c.clear.ensures.items at c.write_dir_reserved.ensures.text)
    (c.if-not-are_fields.ensures.0 (search rules))
