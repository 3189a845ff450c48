use Rattle.drawings.proofs.Names.{◌∙◌, append_assoc, on_ok_weaker}
use Rattle.drawings.specs.Pictures.{axes_text}
use Rattle.drawings.proofs.pictures.put_axes.Goals as goal

pub returns : goal.returns
unfolding axes_text
returns c = on_ok_weaker c.put_letters.result
    (λ e. e ∙ simp (
      c.in_ok-put_markup-2.ensures,
      c.in_ok-put_arrows.ensures,
      c.in_ok-put_frame.ensures,
      c.in_ok-put_markup.ensures,
      c.new.ensures,
      c.new-corner.ensures,
      append_assoc,
    ))
    c.put_letters.ensures
