use Rattle.std.proofs.Common.{◌∙◌, sym}
use Rattle.program_flow.specs.declared.places.Place.TheVariants.{Wanted}
use Rattle.program_flow.proofs.Singles.{last-none}
use Rattle.program_flow.proofs.places.last_operator.Goals as goal

pub returns-then-all_lack-clause-value : goal.returns-then-all_lack-clause-value
returns-then-all_lack-clause-value c = last-none c.args.rank 0 Wanted c.args.text.now (sym c.all_lack.ensures ∙ c.if-all_lack.true)
