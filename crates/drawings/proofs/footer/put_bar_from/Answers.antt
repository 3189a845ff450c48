use Rattle.drawings.proofs.Names.{◌∙◌, append_assoc, on_ok_weaker}
use Rattle.drawings.specs.Bars.{bar_text}
use Rattle.drawings.proofs.footer.put_bar_from.Goals as goal

pub returns : goal.returns
unfolding bar_text
returns c = on_ok_weaker c.put_markup-2.result
    (λ e. e ∙ simp (
      c.in_ok-end_text.ensures,
      c.in_ok-extend_from_slice.ensures.items,
      c.in_ok-put_millimetres.ensures,
      c.in_ok-begin_text.ensures,
      c.in_ok-put_markup.ensures,
      c.in_ok-put_line.ensures,
      c.new.ensures,
      c.new-2.ensures,
      c.new-3.ensures,
      append_assoc,
    ))
    c.put_markup-2.ensures
