use Rattle.program_lowering.proofs.Names.{◌∙◌, rules, sym}
use Rattle.program_lowering.proofs.EvenLemmas.{touched_closes, touched_fails, touched_goes}
use Rattle.program_lowering.proofs.lowering.take_touched.Goals as goal

pub returns-in_err-take_filling-clause-step : goal.returns-in_err-take_filling-clause-step
returns-in_err-take_filling-clause-step c =
    touched_fails c.args.frames.now c.args.choices c.args.even.now c.args.lowering.now c.take_filling.new.self c.args.statement.now c.in-Some.filling
    c.in_err-take_filling.field-0.0 c.from_residual-in_err-take_filling.result (sym c.in_ok-due.ensures ∙ c.in-Some.is) c.in_err-take_filling.ensures
    (search rules) (search rules)

pub returns-then-branch-clause-step : goal.returns-then-branch-clause-step
returns-then-branch-clause-step c =
    touched_closes c.args.frames.now c.args.choices c.args.even.now c.args.lowering.now c.take_filling.new.self c.args.statement.now c.in-Some.filling
    (sym c.in_ok-due.ensures ∙ c.in-Some.is) (rw c.if-branch.true at c.in_ok-take_filling.ensures) (search rules)

pub returns-clause-step : goal.returns-clause-step
returns-clause-step c =
    touched_goes c.args.frames.now c.args.choices c.args.even.now c.args.lowering.now c.take_filling.new.self c.take-2.new.self c.args.statement.now
    c.in-Some.filling c.take-2.result (sym c.in_ok-due.ensures ∙ c.in-Some.is) (rw c.if-branch.false at c.in_ok-take_filling.ensures) c.take-2.ensures
    (search rules)
