use Rattle.std.proofs.Common.{◌∙◌, append_assoc}
use Rattle.std.proofs.lemmas.Result.{on_ok_weaker}
use Rattle.part_summary.specs.Charts.{chart_text}
use Rattle.part_summary.proofs.charts.put_chart.Goals as goal

pub returns : goal.returns
unfolding chart_text
returns c = on_ok_weaker c.put_markup.result
    (λ e. e ∙ simp (
      c.in_ok-put_strokes.ensures,
      c.in_ok-put_limits.ensures,
      c.in_ok-put_level.ensures,
      c.in_ok-put_start.ensures,
      c.reach_after.ensures,
      c.reach_of.ensures,
      append_assoc,
    ))
    c.put_markup.ensures
