use Rattle.std.proofs.Common.{◌∙◌, ap}
use Rattle.part_summary.proofs.Placing.{put_in_at}
use Rattle.part_summary.specs.Times.{Plot}
use Rattle.part_summary.proofs.summary.put_in.Goals as goal

pub returns : goal.returns
returns c = c.in-Ok.ensures.items ∙ put_in_at c.args.part c.args.plots.now.items _ c.as_slice.result.now _
    (ap (λ (p : Plot). p.time) c.part.view_is) c.as_slice.ensures.value c.place_for-place.ensures.place
