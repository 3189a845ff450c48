use Rattle.drawings.proofs.Names.{◌∙◌, append_assoc, on_ok_weaker}
use Rattle.drawings.specs.Pages.{within_line}
use Rattle.drawings.proofs.pages.put_within_line.Goals as goal

pub returns : goal.returns
unfolding within_line
returns c = on_ok_weaker c.put_markup-4.result
    (λ e. e ∙ simp (
      c.in_ok-put_count-3.ensures,
      c.in_ok-put_markup-3.ensures,
      c.in_ok-put_count-2.ensures,
      c.in_ok-put_markup-2.ensures,
      c.in_ok-put_count.ensures,
      c.in_ok-put_markup.ensures,
      c.within_start.ensures,
      append_assoc,
    ))
    c.put_markup-4.ensures
