use Rattle.std.proofs.Common.{ap, rules, subst, sym, ℕ, List}
use Rattle.session_telling.specs.Dialogues.{content, Dialogue}
use Rattle.session_telling.specs.Sessions.{Reports}
use Rattle.session_telling.specs.declared.sessions.Sent.{Sent}
use Rattle.session_telling.proofs.DialogueLemmas.{hears_all, passes_one, reports_none, reports_one}
use Rattle.session_telling.proofs.dialogues.Dialogue.hear.Goals as goal

pub loop-line-preserved-in_ok-push : goal.loop-line-preserved-in_ok-push
loop-line-preserved-in_ok-push c = λ final rest more. c.loop-line.invariant final rest
    (reports_one _ _ c.in-Some.line.now c.in-Some.after.now _ c.push.new.self.items final
    (record { tag = c.in-Some-refusal.refusal.tag; about = c.in-Some-refusal.refusal.about; text = c.in_ok-text.text.items }) rest
    c.in-Some.ensures.line c.in-Some.ensures.ended
    (subst (λ (s : List Sent). Reports s (content c.in-Some.line.now) c.in-Some-refusal.refusal.tag c.in-Some-refusal.refusal.about c.in_ok-text.text.items)
    (ap (λ (d : Dialogue). d.sent) c.self.view_is)
    (subst (λ (t : List ℕ). Reports c.self.inside.session (content c.in-Some.line.now) c.in-Some-refusal.refusal.tag c.in-Some-refusal.refusal.about t)
    (sym c.in_ok-text.ensures.items) (rw c.content.ensures at c.in-Some-refusal.ensures))) c.in_ok-push.ensures.items more)

pub loop-line-preserved : goal.loop-line-preserved
loop-line-preserved c = λ final rest more. c.loop-line.invariant final rest
    (passes_one _ _ c.in-Some.line.now c.in-Some.after.now _ final rest c.in-Some.ensures.line c.in-Some.ensures.ended
    (rw c.content.ensures at c.in_default-refusal.ensures) more)

pub returns : goal.returns
returns c = hears_all _ _ _ _ _ (c.loop-line.invariant _ _ (reports_none _ _ _ c.in_default.ensures.none)) (search rules) (search rules) (search rules)
