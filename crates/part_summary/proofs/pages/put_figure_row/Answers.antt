use Rattle.std.proofs.Common.{◌∙◌, append_assoc}
use Rattle.std.proofs.lemmas.Result.{on_ok_weaker}
use Rattle.part_summary.specs.Pages.{figure_row}
use Rattle.part_summary.proofs.pages.put_figure_row.Goals as goal

pub returns : goal.returns
unfolding figure_row
returns c = on_ok_weaker c.put_markup.result
    (λ e. e ∙ simp (
      c.in_ok-put_figures.ensures,
      c.in_ok-put_between.ensures,
      c.out_class.ensures,
      append_assoc,
    ))
    c.put_markup.ensures
