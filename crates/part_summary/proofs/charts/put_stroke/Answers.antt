use Rattle.std.proofs.Common.{◌∙◌, append_assoc}
use Rattle.std.proofs.lemmas.Result.{on_ok_weaker}
use Rattle.part_summary.specs.Charts.{stroke}
use Rattle.part_summary.proofs.charts.put_stroke.Goals as goal

pub returns : goal.returns
unfolding stroke
returns c = on_ok_weaker c.put_between.result
    (λ e. e ∙ simp (
      c.in_ok-put_greatest.ensures,
      c.in_ok-put_markup-3.ensures,
      c.in_ok-put_least.ensures,
      c.in_ok-put_markup-2.ensures,
      c.in_ok-put_count.ensures,
      c.in_ok-put_markup.ensures,
      append_assoc,
    ))
    c.put_between.ensures
