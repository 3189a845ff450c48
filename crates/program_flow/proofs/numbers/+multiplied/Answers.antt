use Rattle.std.proofs.Common.{◌∙◌, sym, arith}
use Rattle.program_flow.proofs.ValueSteps.{multiplied-done, multiplied-on, multiplied-ends}
use Rattle.program_flow.proofs.numbers.+multiplied.Goals as goal

pub returns-then-times-eq0 : goal.returns-then-times-eq0
returns-then-times-eq0 t c = multiplied-done _ _ _ c.if-times-eq0.true

pub returns-in-Ok : goal.returns-in-Ok
returns-in-Ok t c = c.multiplied.ensures ∙ multiplied-on _ _ _ _ (omega (arith, c.if-times-eq0.false)) (sym c.product.ensures ∙ c.in-Ok.is)

pub returns-in-Err : goal.returns-in-Err
returns-in-Err t c = multiplied-ends _ _ _ _ (omega (arith, c.if-times-eq0.false)) (sym c.product.ensures ∙ c.in-Err.is)
