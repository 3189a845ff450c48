use Rattle.std.proofs.Common.{refl}
use Rattle.std.specs.Fmt.{digits}
use Rattle.drawings.specs.Markup.{between}
use Rattle.drawings.specs.Texts.{markup}
use Rattle.fixed_um.specs.Written.{written}
use Rattle.part_summary.specs.Charts.{chart_start, level, stroke}
use Rattle.part_summary.proofs.examples.charts_have_strokes.Goals as goal

pub returns-clause-strokes : goal.returns-clause-strokes
unfolding stroke level chart_start between markup written digits
returns-clause-strokes c = refl

pub returns-clause-limits : goal.returns-clause-limits
unfolding stroke level chart_start between markup written digits
returns-clause-limits c = refl

pub returns-clause-start : goal.returns-clause-start
unfolding stroke level chart_start between markup written digits
returns-clause-start c = refl
