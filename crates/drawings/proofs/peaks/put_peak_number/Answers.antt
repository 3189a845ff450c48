use Rattle.drawings.proofs.Names.{◌∙◌, append_assoc, on_ok_weaker}
use Rattle.drawings.specs.Peaks.{peak_number}
use Rattle.drawings.proofs.peaks.put_peak_number.Goals as goal

pub returns : goal.returns
unfolding peak_number
returns c = on_ok_weaker c.put_markup-2.result
    (λ e. e ∙ simp (
      c.in_ok-put_along_text.ensures,
      c.in_ok-put_markup.ensures,
      c.new.ensures,
      append_assoc,
    ))
    c.put_markup-2.ensures
