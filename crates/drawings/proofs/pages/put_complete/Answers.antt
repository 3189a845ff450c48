use Rattle.drawings.proofs.Names.{◌∙◌, append_assoc, on_ok_weaker}
use Rattle.drawings.specs.Pages.{complete_text}
use Rattle.drawings.proofs.pages.put_complete.Goals as goal

pub returns : goal.returns
unfolding complete_text
returns c = on_ok_weaker c.put_markup-4.result
    (λ e. e ∙ simp (
      c.in_ok-put_labels.ensures,
      c.missing.ensures,
      c.in_ok-put_markup-3.ensures,
      c.in_ok-put_count-2.ensures,
      c.in_ok-put_markup-2.ensures,
      c.in_ok-put_count.ensures,
      c.in_ok-put_markup.ensures,
      c.complete_start.ensures,
      append_assoc,
    ))
    c.put_markup-4.ensures
