use Rattle.std.proofs.Common.{◌∙◌, ap, refl, rules}
use Rattle.part_summary.specs.Batches.{empty_tallies}
use Rattle.part_summary.proofs.Tallies.{of_none}
use Rattle.part_summary.proofs.summary.Summary.new.Goals as goal

pub returns-clause-none : goal.returns-clause-none
returns-clause-none c = of_none _ refl (c.in_ok-tallies.ensures ∙ ap (empty_tallies c.args.limits.now) (search rules)) c.new.ensures.items c.new-2.ensures.items
