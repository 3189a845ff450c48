use Rattle.std.proofs.Common.{◌∙◌, arith}
use Rattle.program_flow.proofs.Steps.{holds_within-done, holds_within-by}
use Rattle.program_flow.proofs.conditions.+condition.Goals as goal

pub holds_within-returns-then-levels-eq0 : goal.holds_within-returns-then-levels-eq0
holds_within-returns-then-levels-eq0 t c = holds_within-done _ _ _ c.if-levels-eq0.true

pub holds_within-returns : goal.holds_within-returns
holds_within-returns t c = c.parts_hold.ensures ∙ holds_within-by _ _ _ _ (omega (arith, c.if-levels-eq0.false)) c.parts_of.ensures
