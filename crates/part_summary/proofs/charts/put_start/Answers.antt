use Rattle.std.proofs.Common.{◌∙◌, append_assoc}
use Rattle.std.proofs.lemmas.Result.{on_ok_weaker}
use Rattle.part_summary.specs.Charts.{chart_start}
use Rattle.part_summary.proofs.charts.put_start.Goals as goal

pub returns : goal.returns
unfolding chart_start
returns c = on_ok_weaker c.put_markup-4.result
    (λ e. e ∙ simp (
      c.in_ok-put_room.ensures,
      c.in_ok-put_markup-3.ensures,
      c.in_ok-put_width.ensures,
      c.in_ok-put_markup-2.ensures,
      c.in_ok-put_top.ensures,
      c.in_ok-put_markup.ensures,
      append_assoc,
    ))
    c.put_markup-4.ensures
