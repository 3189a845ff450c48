use Rattle.drawings.proofs.Names.{◌∙◌, append_assoc, on_ok_weaker}
use Rattle.drawings.specs.Numbers.{numbers_text}
use Rattle.drawings.proofs.numbers.put_numbers.Goals as goal

pub returns : goal.returns
unfolding numbers_text
returns c = on_ok_weaker c.put_markup-2.result
    (λ e. e ∙ simp (
      c.in_ok-put_numbers_of.ensures,
      c.in_ok-put_markup.ensures,
      c.as_slice.ensures.value,
      c.in_ok-touches.ensures,
      append_assoc,
    ))
    c.put_markup-2.ensures
