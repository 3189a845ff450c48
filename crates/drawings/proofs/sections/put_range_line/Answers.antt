use Rattle.drawings.proofs.Names.{◌∙◌, append_assoc, on_ok_weaker}
use Rattle.drawings.specs.Sections.{range_line}
use Rattle.drawings.proofs.sections.put_range_line.Goals as goal

pub returns : goal.returns
unfolding range_line
returns c = on_ok_weaker c.put_worst.result
    (λ e. e ∙ simp (
      c.in_ok-put_limit_length-2.ensures,
      c.in_ok-put_markup-2.ensures,
      c.in_ok-put_limit_length.ensures,
      c.in_ok-put_markup.ensures,
      append_assoc,
    ))
    c.put_worst.ensures
