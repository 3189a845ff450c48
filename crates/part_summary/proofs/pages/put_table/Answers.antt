use Rattle.std.proofs.Common.{◌∙◌, append_assoc}
use Rattle.std.proofs.lemmas.Result.{on_ok_weaker}
use Rattle.part_summary.specs.Pages.{parts_table}
use Rattle.part_summary.proofs.pages.put_table.Goals as goal

pub returns : goal.returns
unfolding parts_table
returns c = on_ok_weaker c.put_markup-2.result
    (λ e. e ∙ simp (
      c.in_ok-put_parts.ensures,
      c.in_ok-put_markup.ensures,
      append_assoc,
    ))
    c.put_markup-2.ensures
