use Rattle.drawings.proofs.Names.{◌∙◌, append_assoc, on_ok_weaker}
use Rattle.drawings.specs.Texts.{disc_text}
use Rattle.drawings.proofs.texts.put_disc.Goals as goal

pub returns : goal.returns
unfolding disc_text
returns c = on_ok_weaker c.put_markup.result
    (λ e. e ∙ simp (
      c.in_ok-put_attribute-3.ensures,
      c.in_ok-put_attribute-2.ensures,
      c.in_ok-put_attribute.ensures,
      c.across.ensures.value,
      c.down.ensures.value,
      append_assoc,
    ))
    c.put_markup.ensures
