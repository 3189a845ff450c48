use Rattle.drawings.proofs.Names.{◌∙◌, append_assoc, on_ok_weaker}
use Rattle.drawings.specs.Drawing.{head_text}
use Rattle.drawings.proofs.drawing.put_head.Goals as goal

pub returns : goal.returns
unfolding head_text
returns c = on_ok_weaker c.put_markup-4.result
    (λ e. e ∙ simp (
      c.in_ok-end_text.ensures,
      c.in_ok-put_title_words.ensures,
      c.in_ok-begin_text.ensures,
      c.in_ok-put_markup-3.ensures,
      c.in_ok-put_markup-2.ensures,
      c.in_ok-put_markup.ensures,
      c.new.ensures,
      append_assoc,
    ))
    c.put_markup-4.ensures
