use Rattle.drawings.proofs.Names.{◌∙◌, append_assoc, on_ok_weaker}
use Rattle.drawings.specs.Labels.{name_text}
use Rattle.drawings.proofs.labels.put_name_at.Goals as goal

pub returns : goal.returns
unfolding name_text
returns c = on_ok_weaker c.put_markup-2.result
    (λ e. e ∙ simp (
      c.in_ok-end_text.ensures,
      c.in_ok-put_name.ensures,
      c.in_ok-begin_text.ensures,
      c.in_ok-put_markup.ensures,
      c.new.ensures,
      append_assoc,
    ))
    c.put_markup-2.ensures
