use Rattle.std.proofs.Common.{rules}
use Rattle.drawings.proofs.Filled.{page_added, page_has_text}
use Rattle.drawings.proofs.pages.report_text.Goals as goal

pub returns-clause-some : goal.returns-clause-some
returns-clause-some c = page_has_text c.args.facts.now c.args.program.now c.args.features.now c.args.limits.now c.args.rows.now _
    (page_added _ _ _ _ _ _ (search rules))
