use Rattle.std.proofs.Common.{◌∙◌, append_assoc}
use Rattle.std.proofs.lemmas.Result.{on_ok_weaker}
use Rattle.part_summary.specs.Pages.{range_line}
use Rattle.part_summary.proofs.pages.put_range_line.Goals as goal

pub returns : goal.returns
unfolding range_line
returns c = on_ok_weaker c.put_markup-3.result
    (λ e. e ∙ simp (
      c.in_ok-put_limit-2.ensures,
      c.in_ok-put_markup-2.ensures,
      c.in_ok-put_limit.ensures,
      c.in_ok-put_markup.ensures,
      append_assoc,
    ))
    c.put_markup-3.ensures
