use Rattle.drawings.proofs.Names.{◌-◌, length, on_ok_weaker, refl}
use Rattle.drawings.specs.Labels.{labels_text}
use Rattle.drawings.proofs.Lines.{labels_joined}
use Rattle.drawings.proofs.labels.put_labels.Goals as goal

pub returns : goal.returns
unfolding labels_text
returns c =
    let each = c.in_ok-put_each_label.ensures in
    on_ok_weaker c.put_more_if_any.result
    (λ e. record {
      text = labels_text each.text (length c.args.marks.now - 33);
      is = record {
        order = c.in_ok-order.order.items;
        ordered = c.in_ok-order.ensures.ordered;
        labels = each.text;
        on_lines = rw c.as_slice.ensures.value at each.is;
        are = refl;
      };
      added = labels_joined c.args.out.now.items _ each.text _ c.put_markup.new.out.items c.put_each_label.new.out.items
          c.put_markup-2.new.out.items c.put_more_if_any.new.out.items c.saturating_sub.result (length c.args.marks.now - 33)
          c.in_ok-put_markup.ensures each.added c.in_ok-put_markup-2.ensures e c.saturating_sub.ensures;
    })
    c.put_more_if_any.ensures
