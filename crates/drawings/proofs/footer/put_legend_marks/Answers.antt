use Rattle.drawings.proofs.Names.{◌∙◌, append_assoc, on_ok_weaker}
use Rattle.drawings.specs.Footer.{legend_marks}
use Rattle.drawings.proofs.footer.put_legend_marks.Goals as goal

pub returns : goal.returns
unfolding legend_marks
returns c = on_ok_weaker c.put_markup-4.result
    (λ e. e ∙ simp (
      c.in_ok-put_line.ensures,
      c.in_ok-put_markup-3.ensures,
      c.in_ok-put_disc-2.ensures,
      c.in_ok-put_markup-2.ensures,
      c.in_ok-put_disc.ensures,
      c.in_ok-put_markup.ensures,
      c.new-4.ensures,
      c.new-3.ensures,
      c.new-2.ensures,
      c.new.ensures,
      append_assoc,
    ))
    c.put_markup-4.ensures
