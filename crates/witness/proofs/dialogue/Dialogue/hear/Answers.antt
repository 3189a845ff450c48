use Rattle.witness.proofs.Names.{◌∙◌, ◌≡◌, all_renewed, ap, Dialogue, Fault, get_or, length, List, map, refl, rules, slice_get, slice_get_read, Some, subst, sym, Use}
use Rattle.witness.proofs.Names.{use_renewed}
use Rattle.std.proofs.lemmas.List.{with_items_is}
use Rattle.witness.proofs.AfterMarks.{early_is, in_turn_is, same_parts, same_use}
use Rattle.witness.proofs.dialogue.Dialogue.hear.Goals as goal
use Rattle.witness.proofs.dialogue.Dialogue.hear.Goals.{then-early, else-early}

pub returns : goal.returns
returns c = λ u e.
    let read : c.index-used.result.now ≡ get_or c.args.self.now.uses c.args.at c.index-used.result.now =
    subst (λ (us : List Use). c.index-used.result.now ≡ get_or us c.args.at c.index-used.result.now)
    (ap (λ (d : Dialogue). d.uses) c.self.view_is) c.index-used.ensures in
    let there : slice_get c.args.self.now.uses c.args.at ≡ Some c.index-used.result.now =
    slice_get_read c.args.self.now.uses (length c.args.self.now.uses) c.args.at c.index-used.result.now refl c.requires read in
    let same : c.index-used.result.now ≡ u = same_use c.index-used.result.now u (sym there ∙ e) in
    let early = c.is_out_of_turn-early.ensures in
    elim c.if-early.branch [
      | then-early w ↦
          let known = rw w.if-early.true at c.in_ok-known.ensures in
          let renewed = rw w.self-inside-is at c.renew-2.ensures in
          let added = rw w.self-inside-is at c.add_reserved.ensures in
          let lost : c.if-early.self-inside.uses.items ≡ map (use_renewed (all_renewed Fault)) c.self.inside.uses.items =
          rw w.self-inside-is (with_items_is c.self.inside.uses w.renew_all.new.uses (search rules) ∙ search rules) in
          let before = c.as_mut_slice-2.ensures.value ∙ lost in
          let marked = rw before at c.mark_all.ensures in
          let left = rw (with_items_is c.if-early.self-inside.uses c.mark_all.new.uses (search rules), marked) at c.remove_ended.ensures in
          rw (sym same)
          (rw (early_is c.args.self.now c.args.at c.index-used.result.now c.args.heard.now c.args.is_end (search (rules, early)))
          (rw (w.self-inside-is, ← c.self.view_is)
          (same_parts _ _ refl refl left refl refl (search (rules, renewed)) (search (rules, added, known)), tt)))
      | else-early w ↦
          let known = rw w.if-early.false at c.in_ok-known.ensures in
          let slice = rw w.self-inside-is at c.as_mut_slice-2.ensures.value in
          let renewed = rw w.self-inside-is at c.renew-2.ensures in
          let added = rw w.self-inside-is at c.add_reserved.ensures in
          let marked = rw slice at c.mark_all.ensures in
          let left = rw (with_items_is c.if-early.self-inside.uses c.mark_all.new.uses (search rules), marked) at c.remove_ended.ensures in
          rw (sym same)
          (rw (in_turn_is c.args.self.now c.args.at c.index-used.result.now c.args.heard.now c.args.is_end (search (rules, early)))
          (rw (w.self-inside-is, ← c.self.view_is)
          (same_parts _ _ refl refl left refl refl (search (rules, renewed)) (search (rules, added, known)), tt)))
    ]
