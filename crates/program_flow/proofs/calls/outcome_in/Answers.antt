use Rattle.std.proofs.Common.{◌≡◌, ◌∙◌, ◌∷◌, IfOk, List, ap, arith, drop, refl, subst, sym}
use Rattle.dmis_text.specs.declared.elements.Statement.{Statement}
use Rattle.program_flow.specs.Variables.{entry_value}
use Rattle.program_flow.specs.Calls.{Step, step_of}
use Rattle.program_flow.specs.Named.{seen_call}
use Rattle.program_flow.specs.Stepped.{Leads}
use Rattle.program_flow.proofs.Plain.{step-other}
use Rattle.program_flow.proofs.Leads.{is_there, step-here, step-past}
use Rattle.program_flow.proofs.Steps.{drop_past}
use Rattle.program_flow.proofs.calls.outcome_in.Goals as goal

pub returns-then-place-len : goal.returns-then-place-len
returns-then-place-len c = λ next others among.
    let f = seen_call c.args.call.now in (
      f,
      next,
      others,
      refl,
      step-past c.args.macros.now (entry_value c.args.variables.now) f (next ∷ others)
          (drop_past f.control.place f.statements (omega (arith, c.len.ensures, c.if-place-len.true))),
    )

pub returns : goal.returns
returns c = λ next others among.
    let f = seen_call c.args.call.now in
    let are : c.deref-2.result.now ≡ f.statements = c.deref-2.ensures.value ∙ (c.in_ok-statements.ensures ∙ c.deref.ensures.value) in
    let there = is_there f.control.place f.statements (omega (arith, c.len.ensures, c.if-place-len.false)) in
    let given = subst (λ (ss : List Statement). drop f.control.place ss ≡ there.one ∷ there.below → IfOk c.outcome_at.result
    (λ it. Leads (record { name = f.name; statements = ss; control = f.control } ∷ (next ∷ others)) it
    (step_of c.args.macros.now (entry_value c.args.variables.now) (record { name = f.name; statements = ss; control = f.control })
    (next ∷ others) there.one))) are
    (λ at. c.outcome_at.ensures.one f.name (next ∷ others) there.one there.below at among) in
    subst (λ (d : Step). IfOk c.outcome_at.result (λ it. Leads (f ∷ (next ∷ others)) it d))
    (step-here c.args.macros.now (entry_value c.args.variables.now) f (next ∷ others) there.one there.below there.is) (given there.is)

pub returns-then-is_straight : goal.returns-then-is_straight
returns-then-is_straight c = λ next others among.
    let f = seen_call c.args.call.now in
    let s = c.in_ok-statement.statement in
    let there = is_there f.control.place f.statements (omega (arith, c.len.ensures, c.if-place-len.false)) in
    let same : s ≡ there.one = c.in_ok-statement.ensures ∙ (c.index.ensures ∙ there.at c.index.result.now) in
    let at : drop f.control.place f.statements ≡ s ∷ there.below = there.is ∙ ap (λ (t : Statement). t ∷ there.below) (sym same) in (
      s,
      (there.below, at),
      step-other c.args.macros.now (entry_value c.args.variables.now) f.name f.statements f.control.place f.control.blocks (next ∷ others) s there.below at
          (c.if-is_straight.ensures.plain refl) (c.if-is_straight.ensures.other refl),
    )
