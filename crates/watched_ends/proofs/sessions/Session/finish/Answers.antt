use Rattle.std.proofs.Common.{refl, ap, ◌∙◌}
use Rattle.watched_ends.specs.Sessions.{State}
use Rattle.watched_ends.proofs.SessionNames.{on_ok, finished, theirs, not_theirs}
use Rattle.watched_ends.proofs.sessions.Session.finish.Goals as goal

pub returns-in-NotTheirs : goal.returns-in-NotTheirs
returns-in-NotTheirs c = on_ok _ (λ says. finished c.args.self.now _ _ _ _ _ _ _ _ _ _ _
    (ap (λ (x : State). x.called.job) c.self.view_is)
    (c.as_slice-up.ensures.value ∙ ap (λ (x : State). x.up) c.self.view_is)
    (c.as_slice-down.ensures.value ∙ ap (λ (x : State). x.down) c.self.view_is)
    (c.as_slice-order.ensures.value ∙ ap (λ (x : State). x.order) c.self.view_is)
    c.in_ok-text.ensures
    (c.as_str-up_name.ensures.value ∙ ap (λ (x : State). x.called.up) c.self.view_is)
    (c.as_str-down_name.ensures.value ∙ ap (λ (x : State). x.called.down) c.self.view_is)
    c.in_ok-notes.ensures
    (not_theirs c.args.self.now _ _ _ _ _ _ c.requires c.in-NotTheirs.is c.as_str.ensures.value says)) c.blame.ensures

pub returns-in-Whole : goal.returns-in-Whole
returns-in-Whole c = finished c.args.self.now _ _ _ _ _ _ _ _ _ _ _
    (ap (λ (x : State). x.called.job) c.self.view_is)
    (c.as_slice-up.ensures.value ∙ ap (λ (x : State). x.up) c.self.view_is)
    (c.as_slice-down.ensures.value ∙ ap (λ (x : State). x.down) c.self.view_is)
    (c.as_slice-order.ensures.value ∙ ap (λ (x : State). x.order) c.self.view_is)
    c.in_ok-text.ensures
    (c.as_str-up_name.ensures.value ∙ ap (λ (x : State). x.called.up) c.self.view_is)
    (c.as_str-down_name.ensures.value ∙ ap (λ (x : State). x.called.down) c.self.view_is)
    c.in_ok-notes.ensures
    (theirs _ _ _ _ _ _ c.in-Whole.is (record { stage = refl; said = refl; text = refl; status = refl }))
