use Rattle.std.proofs.Common.{◌∙◌, arith}
use Rattle.program_flow.proofs.ValueSteps.{value_within-done, value_within-by}
use Rattle.program_flow.proofs.values.+value.Goals as goal

pub value_within-returns-then-levels-eq0 : goal.value_within-returns-then-levels-eq0
value_within-returns-then-levels-eq0 t c = value_within-done _ _ _ c.if-levels-eq0.true

pub value_within-returns : goal.value_within-returns
value_within-returns t c = c.parts_value.ensures ∙ value_within-by _ _ _ _ (omega (arith, c.if-levels-eq0.false)) c.parts_of.ensures
