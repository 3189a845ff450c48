use Rattle.contact_ledger.proofs.WrittenTexts.{feature_written, then_is_ok}
use Rattle.contact_ledger.proofs.feature_writing.add_feature.Goals as goal

pub returns-clause-text : goal.returns-clause-text
returns-clause-text c = then_is_ok c.extend_from_slice-2.result _ _ _ c.extend_from_slice-2.ensures.items (λ last.
    feature_written c.args.text.now.items _ _ _ _ _ _ _ c.args.feature.now c.in_ok-extend_from_slice.ensures.items
    c.in_ok-add_name.ensures.text (rw c.len.ensures at c.in_ok-add_number.ensures) c.in_ok-add_origin.ensures.text
    c.in_ok-push.ensures.items (rw c.as_slice.ensures at c.in_ok-add_points.ensures.text) last)
