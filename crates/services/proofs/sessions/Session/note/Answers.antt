use Rattle.std.proofs.Common.{rules, ◌≡◌, length, sym, ap, subst, ◌∙◌}
use Rattle.std.proofs.lemmas.List.{nil_from_length}
use Rattle.services.specs.Sessions.{State, HasAllBut}
use Rattle.services.proofs.Keeping.{nothing_ready, worked_all}
use Rattle.services.proofs.sessions.Session.note.Goals as goal

pub returns-then-is_empty-clause-kept : goal.returns-then-is_empty-clause-kept
returns-then-is_empty-clause-kept c =
    let none : length c.self-2.inside.contacts.text.items ≡ 0 = search rules in
    λ d o m h k. nothing_ready d _ _ c.show_worked-then-is_empty.new.self o m h c.in_ok-follow.ensures.core k
    (ap (λ (s : State). s.core.text) (sym c.self-2.view_is) ∙ nil_from_length c.self-2.inside.contacts.text.items none)
    c.show_worked-then-is_empty.ensures.core c.show_worked-then-is_empty.ensures.due

pub returns-else-is_empty-clause-kept : goal.returns-else-is_empty-clause-kept
returns-else-is_empty-clause-kept c = λ d o m h k. (
  subst (λ (s : State). HasAllBut s.core.text s.core o) (sym c.self-2.view_is)
      (worked_all d _ _ o m h c.in_ok-follow.ensures.core k),
  k.listened,
)
