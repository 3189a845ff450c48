use Rattle.drawings.proofs.Names.{◌∙◌, append-nil, labels_at, refl, sym}
use Rattle.drawings.proofs.Items.{no_items}
use Rattle.drawings.proofs.Lines.{lines_for, lines_are_highest}
use Rattle.drawings.proofs.labels.put_each_label.Goals as goal

pub returns : goal.returns
returns c = record {
  text = labels_at c.args.plan.now c.args.marks.now c.args.wanted.now c.args.order.now (lines_for 26000 c.args.order.now);
  is = record { lines = lines_for 26000 c.args.order.now; highest = lines_are_highest c.args.order.now; are = refl };
  added = sym (append-nil c.loop-left.out.items) ∙ (rw (no_items c.loop-left.left.now c.in_default.len_below) at c.loop-left.invariant.all);
}
