use Rattle.std.proofs.Common.{◌∙◌, append_assoc}
use Rattle.std.proofs.lemmas.Result.{on_ok_weaker}
use Rattle.part_summary.specs.Pages.{lacking_line}
use Rattle.part_summary.proofs.pages.put_lacking_part.Goals as goal

pub returns : goal.returns
unfolding lacking_line
returns c = on_ok_weaker c.put_markup.result
    (λ e. e ∙ simp (
      c.in_ok-put_few.ensures,
      c.in_ok-put_unfinished.ensures,
      append_assoc,
    ))
    c.put_markup.ensures
