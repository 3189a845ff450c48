use Rattle.std.proofs.Common.{◌≡◌, ◌∙◌, ◌∷◌, IfOk, List, ap, drop, refl, subst, sym, true, false, ℕ}
use Rattle.dmis_text.specs.declared.elements.Statement.{Statement}
use Rattle.program_flow.specs.Variables.{entry_value}
use Rattle.program_flow.specs.Calls.{Step, call_of, is_call, lifted}
use Rattle.program_flow.specs.Flow.{Turn, to, turn}
use Rattle.program_flow.specs.Macros.{begins_macro, ends_macro}
use Rattle.program_flow.specs.Named.{frame_at}
use Rattle.program_flow.specs.Stepped.{Leads}
use Rattle.program_flow.specs.Turns.{turned}
use Rattle.program_flow.specs.declared.blocks.Block.{Block}
use Rattle.program_flow.proofs.Leads.{same_first, step-called, step-turned}
use Rattle.program_flow.proofs.Steps.{first_item}
use Rattle.program_flow.proofs.calls.outcome_at.Goals as goal

pub returns-then-is_call-clause-one : goal.returns-then-is_call-clause-one
returns-then-is_call-clause-one c = λ name outer s below at among.
    let f = frame_at name c.args.statements.now c.args.position.now in
    let t = c.statement-item.result in
    let same : t ≡ s = same_first t s (drop 1 c.from.result.now) below
    (sym (first_item _ _ c.in-len1-up.len_at_least c.statement-item.is) ∙ (c.from.ensures ∙ at)) in
    let call : is_call s ≡ true = subst (λ (u : Statement). is_call u ≡ true) same (sym c.if-is_call.ensures) in
    let params : c.deref.result.now ≡ s.params = c.deref.ensures ∙ ap (λ (u : Statement). u.params) same in
    subst (λ (d : Step). IfOk c.called.result (λ it. Leads (f ∷ outer) it d))
    (ap (λ (ps : List (List ℕ)). call_of c.args.macros.now f outer s ps) params
    ∙ step-called c.args.macros.now (entry_value c.args.variables.now) f outer s call) (c.called.ensures f outer s below at refl among)

pub returns-clause-one : goal.returns-clause-one
returns-clause-one c = λ name outer s below at among.
    let f = frame_at name c.args.statements.now c.args.position.now in
    let v = entry_value c.args.variables.now in
    let t = c.statement-item.result in
    let same : t ≡ s = same_first t s (drop 1 c.from.result.now) below
    (sym (first_item _ _ c.in-len1-up.len_at_least c.statement-item.is) ∙ (c.from.ensures ∙ at)) in
    let call : is_call s ≡ false = subst (λ (u : Statement). is_call u ≡ false) same (sym c.if-is_call.ensures) in
    let begins : begins_macro s ≡ false = subst (λ (u : Statement). begins_macro u ≡ false) same (sym c.if-begins_macro.ensures) in
    let ends : ends_macro s ≡ false = subst (λ (u : Statement). ends_macro u ≡ false) same (sym c.if-ends_macro.ensures) in
    let given : turned c.args.position.now.blocks.items s c.turn-given.result
    ≡ turn c.args.statements.now v (to c.args.position.now.place c.args.position.now.blocks.items) =
    subst (λ (bs : List Block). turned bs s c.turn-given.result ≡ turn c.args.statements.now v (to c.args.position.now.place bs))
    c.deref-2.ensures.value (c.turn-given.ensures s below at) in
    subst (λ (d : Step). IfOk c.followed.result (λ it. Leads (f ∷ outer) it d))
    (ap (λ (u : Turn). lifted f outer u) given ∙ step-turned c.args.macros.now v f outer s call begins ends)
    (c.followed.ensures f outer s below at (ap (λ (u : Statement). u.line) same))
