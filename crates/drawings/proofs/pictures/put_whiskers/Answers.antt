use Rattle.drawings.proofs.Names.{◌∙◌, append_assoc, on_ok_weaker}
use Rattle.drawings.specs.Marks.{whiskers_text}
use Rattle.drawings.proofs.pictures.put_whiskers.Goals as goal

pub returns : goal.returns
unfolding whiskers_text
returns c = on_ok_weaker c.put_markup-2.result
    (λ e. e ∙ simp (
      c.in_ok-put_each_whisker.ensures,
      c.in_ok-put_markup.ensures,
      c.thickness_for.ensures.value,
      append_assoc,
    ))
    c.put_markup-2.ensures
