use Rattle.part_summary.proofs.Reaches.{grown}
use Rattle.part_summary.proofs.examples.charts_hold_their_parts.Goals as goal

pub returns-clause-others : goal.returns-clause-others
returns-clause-others c = grown
