use Rattle.std.proofs.Common.{◌≡◌, ◌∙◌, [], ◌∷◌, ◌++◌, IfOk, List, ap, drop, map, refl, subst, sym}
use Rattle.std.specs.Prelude.{◌||◌, bytes_eq}
use Rattle.dmis_text.specs.declared.elements.Statement.{Statement}
use Rattle.program_flow.specs.Variables.{entry_value}
use Rattle.program_flow.specs.Calls.{Frame, is_open, step}
use Rattle.program_flow.specs.Left.{Left, frames_of}
use Rattle.program_flow.specs.Named.{frame_at, seen_call}
use Rattle.program_flow.specs.Stepped.{Leads}
use Rattle.program_flow.specs.declared.calls.Call.{Call}
use Rattle.program_flow.proofs.Leads.{at_outside, has_first, open_with}
use Rattle.program_flow.proofs.Steps.{first_item, no_items}
use Rattle.program_flow.proofs.flow.Flow.outcome.Goals as goal

pub returns-in-len1-up : goal.returns-in-len1-up
returns-in-len1-up c =
    let v = entry_value c.args.variables.now in
    let r = c.outcome_in.result in
    let last = frame_at [] c.self.inside.outside.items c.self.inside.position in
    let k = c.call-item.result in
    let more = drop 1 c.as_slice.result.now in
    let calls : c.self.inside.calls.items ≡ k ∷ more = sym c.as_slice.ensures.value ∙ first_item _ _ c.in-len1-up.len_at_least c.call-item.is in
    let have = has_first (map seen_call more) last in
    let given = c.outcome_in.ensures have.first have.others
    (λ name. ap (λ (fs : List Frame). is_open name (seen_call k ∷ fs)) (sym have.are)
    ∙ (open_with name (seen_call k ∷ map seen_call more) last refl
    ∙ ap (λ (ks : List Call). is_open name (map seen_call ks) || bytes_eq [] name) (sym (c.deref-in-len1-up.ensures.value ∙ calls)))) in
    let framed = subst (λ (fs : List Frame). IfOk r (λ it. Leads (seen_call k ∷ fs) it (step c.deref.result.now v (seen_call k ∷ fs)))) (sym have.are) given in
    let called = subst (λ (ks : List Call). IfOk r (λ it. Leads (map seen_call ks ++ (last ∷ [])) it
    (step c.deref.result.now v (map seen_call ks ++ (last ∷ []))))) (sym calls) framed in
    let whole = subst (λ (ms : List Statement). IfOk r (λ it. Leads (map seen_call c.self.inside.calls.items ++ (last ∷ [])) it
    (step ms v (map seen_call c.self.inside.calls.items ++ (last ∷ []))))) c.deref.ensures.value called in
    subst (λ (l : Left). IfOk r (λ it. Leads (frames_of l) it (step l.macros v (frames_of l)))) c.self.view_is whole

pub returns : goal.returns
returns c =
    let v = entry_value c.args.variables.now in
    let r = c.outcome_at.result in
    let f = frame_at [] c.deref-4.result.now c.self.inside.position in
    let none : c.self.inside.calls.items ≡ [] = sym c.as_slice.ensures.value ∙ no_items _ c.in_default.len_below in
    let given = at_outside r c.deref-2.result.now v f (λ e. c.outcome_at.ensures.none e)
    (λ s below e. c.outcome_at.ensures.one [] [] s below e (λ name. open_with name [] f refl
    ∙ ap (λ (ks : List Call). is_open name (map seen_call ks) || bytes_eq [] name) (sym (c.deref-3.ensures.value ∙ none)))) in
    let stated = subst (λ (ss : List Statement). IfOk r (λ it. Leads (frame_at [] ss c.self.inside.position ∷ []) it
    (step c.deref-2.result.now v (frame_at [] ss c.self.inside.position ∷ [])))) c.deref-4.ensures.value given in
    let last = frame_at [] c.self.inside.outside.items c.self.inside.position in
    let called = subst (λ (ks : List Call). IfOk r (λ it. Leads (map seen_call ks ++ (last ∷ [])) it
    (step c.deref-2.result.now v (map seen_call ks ++ (last ∷ []))))) (sym none) stated in
    let whole = subst (λ (ms : List Statement). IfOk r (λ it. Leads (map seen_call c.self.inside.calls.items ++ (last ∷ [])) it
    (step ms v (map seen_call c.self.inside.calls.items ++ (last ∷ []))))) c.deref-2.ensures.value called in
    subst (λ (l : Left). IfOk r (λ it. Leads (frames_of l) it (step l.macros v (frames_of l)))) c.self.view_is whole
