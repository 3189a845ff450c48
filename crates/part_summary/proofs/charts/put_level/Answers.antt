use Rattle.std.proofs.Common.{◌∙◌, FitsSigned, append_assoc, rules}
use Rattle.std.proofs.lemmas.Int.{to_z-of_z}
use Rattle.std.proofs.lemmas.Result.{on_ok_weaker}
use Rattle.std.specs.Int.{w128}
use Rattle.part_summary.specs.Charts.{level}
use Rattle.part_summary.proofs.charts.put_level.Goals as goal

pub returns : goal.returns
unfolding level
returns c =
    let fits : FitsSigned w128 c.args.at = search rules in
    on_ok_weaker c.put_markup-5.result
    (λ e. e ∙ simp (
      c.in_ok-put_width.ensures,
      c.in_ok-put_markup-4.ensures,
      c.in_ok-put_length.ensures,
      to_z-of_z w128 c.args.at fits,
      c.in_ok-put_markup-3.ensures,
      c.in_ok-put_markup-2.ensures,
      c.in_ok-put_markup.ensures,
      append_assoc,
    ))
    c.put_markup-5.ensures
