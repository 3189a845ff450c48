use Rattle.dme_tags.proofs.Names.{◌∙◌, ap, IfOk-weaker, None, on_err_weaker, OpenValue, Some}
use Rattle.dme_tags.proofs.Drawn.{next_standard, next_event, spent_standard, spent_event}
use Rattle.dme_tags.proofs.Passing.{passed_over, spent_exactly}
use Rattle.dme_tags.proofs.open_commands.Open.next_tag.Goals as goal

pub returns-in-Standard-clause-next : goal.returns-in-Standard-clause-next
returns-in-Standard-clause-next c =
    IfOk-weaker c.next_tag.result _ _
    (λ tag e. next_standard c.args.self.now c.args.kind c.of.result _ _ (Some tag) c.of.ensures c.in-Standard.is
    (ap (λ (o : OpenValue). o.standard) c.self.view_is) (ap (λ (o : OpenValue). o.drawn) c.self.view_is) e)
    c.next_tag.ensures.next

pub returns-in-Standard-clause-spent : goal.returns-in-Standard-clause-spent
returns-in-Standard-clause-spent c =
    on_err_weaker c.next_tag.result
    (λ e. next_standard c.args.self.now c.args.kind c.of.result _ _ None c.of.ensures c.in-Standard.is
    (ap (λ (o : OpenValue). o.standard) c.self.view_is) (ap (λ (o : OpenValue). o.drawn) c.self.view_is) e)
    c.next_tag.ensures.spent

pub returns-in-Standard-clause-all_held : goal.returns-in-Standard-clause-all_held
returns-in-Standard-clause-all_held c =
    spent_exactly c.args.self.now c.args.kind _
    (IfOk-weaker c.next_tag.result _ _ (λ tag e. next_standard c.args.self.now c.args.kind c.of.result _ _ (Some tag) c.of.ensures
    c.in-Standard.is
    (ap (λ (o : OpenValue). o.standard) c.self.view_is) (ap (λ (o : OpenValue). o.drawn) c.self.view_is) e)
    c.next_tag.ensures.next)
    (on_err_weaker c.next_tag.result
    (λ all. spent_standard c.args.self.now c.args.kind c.of.result _ c.of.ensures c.in-Standard.is
    (ap (λ (o : OpenValue). o.standard) c.self.view_is) all)
    c.next_tag.ensures.all_held)
    c.next_tag.ensures.named

pub returns-in-Event-clause-next : goal.returns-in-Event-clause-next
returns-in-Event-clause-next c =
    IfOk-weaker c.next_tag-in-Event.result _ _
    (λ tag e. next_event c.args.self.now c.args.kind c.of.result _ _ (Some tag) c.of.ensures c.in-Event.is
    (ap (λ (o : OpenValue). o.event) c.self.view_is) (c.from.ensures
    ∙ ap (λ (o : OpenValue). o.event_drawn) c.self.view_is) e)
    c.next_tag-in-Event.ensures.next

pub returns-in-Event-clause-spent : goal.returns-in-Event-clause-spent
returns-in-Event-clause-spent c =
    on_err_weaker c.next_tag-in-Event.result
    (λ e. next_event c.args.self.now c.args.kind c.of.result _ _ None c.of.ensures c.in-Event.is
    (ap (λ (o : OpenValue). o.event) c.self.view_is) (c.from.ensures
    ∙ ap (λ (o : OpenValue). o.event_drawn) c.self.view_is) e)
    c.next_tag-in-Event.ensures.spent

pub returns-in-Event-clause-all_held : goal.returns-in-Event-clause-all_held
returns-in-Event-clause-all_held c =
    spent_exactly c.args.self.now c.args.kind _
    (IfOk-weaker c.next_tag-in-Event.result _ _ (λ tag e. next_event c.args.self.now c.args.kind c.of.result _ _ (Some tag) c.of.ensures
    c.in-Event.is
    (ap (λ (o : OpenValue). o.event) c.self.view_is) (c.from.ensures
    ∙ ap (λ (o : OpenValue). o.event_drawn) c.self.view_is) e) c.next_tag-in-Event.ensures.next)
    (on_err_weaker c.next_tag-in-Event.result
    (λ all. spent_event c.args.self.now c.args.kind c.of.result _ c.of.ensures c.in-Event.is
    (ap (λ (o : OpenValue). o.event) c.self.view_is) all)
    c.next_tag-in-Event.ensures.all_held)
    c.next_tag-in-Event.ensures.named

pub returns-in-Standard-clause-passed : goal.returns-in-Standard-clause-passed
returns-in-Standard-clause-passed c =
    IfOk-weaker c.next_tag.result _ _
    (λ tag e. passed_over c.args.self.now c.args.kind tag (next_standard c.args.self.now c.args.kind c.of.result _ _ (Some tag) c.of.ensures
    c.in-Standard.is
    (ap (λ (o : OpenValue). o.standard) c.self.view_is) (ap (λ (o : OpenValue). o.drawn) c.self.view_is) e))
    c.next_tag.ensures.next

pub returns-in-Event-clause-passed : goal.returns-in-Event-clause-passed
returns-in-Event-clause-passed c =
    IfOk-weaker c.next_tag-in-Event.result _ _
    (λ tag e. passed_over c.args.self.now c.args.kind tag (next_event c.args.self.now c.args.kind c.of.result _ _ (Some tag) c.of.ensures
    c.in-Event.is
    (ap (λ (o : OpenValue). o.event) c.self.view_is) (c.from.ensures
    ∙ ap (λ (o : OpenValue). o.event_drawn) c.self.view_is) e))
    c.next_tag-in-Event.ensures.next
