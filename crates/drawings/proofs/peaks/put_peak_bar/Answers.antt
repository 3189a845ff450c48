use Rattle.drawings.proofs.Names.{◌∙◌, append_assoc, on_ok_weaker}
use Rattle.drawings.specs.Peaks.{peak_bar}
use Rattle.drawings.proofs.peaks.put_peak_bar.Goals as goal

pub returns : goal.returns
unfolding peak_bar
returns c = on_ok_weaker c.put_line.result
    (λ e. e ∙ simp (
      c.in_ok-put_markup-4.ensures,
      c.in_ok-put_frame.ensures,
      c.in_ok-put_markup-3.ensures,
      c.in_ok-put_markup-2.ensures,
      c.in_ok-put_markup.ensures,
      c.new-first.ensures,
      c.new.ensures,
      c.new-above.ensures,
      c.new-2.ensures,
      append_assoc,
    ))
    c.put_line.ensures
