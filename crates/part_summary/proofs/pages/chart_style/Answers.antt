use Rattle.std.proofs.Common.{refl}
use Rattle.part_summary.specs.Pages.{chart_style}
use Rattle.part_summary.proofs.pages.chart_style.Goals as goal

pub returns : goal.returns
unfolding chart_style
returns c = refl
