use Rattle.drawings.proofs.Names.{◌∙◌, append_assoc, on_ok_weaker}
use Rattle.drawings.specs.Marks.{line_start}
use Rattle.drawings.proofs.pictures.put_line_start.Goals as goal

pub returns : goal.returns
unfolding line_start
returns c = on_ok_weaker c.put_markup-3.result
    (λ e. e ∙ simp (
      c.in_ok-put_attribute.ensures,
      c.in_ok-put_markup-2.ensures,
      c.in_ok-put_markup.ensures,
      append_assoc,
    ))
    c.put_markup-3.ensures
