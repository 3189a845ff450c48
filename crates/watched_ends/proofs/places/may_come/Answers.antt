use Rattle.watched_ends.proofs.Names.{◌<◌, ◌∙◌, ◌≤◌, arith, IsBefore, ltb-false, subst, sym}
use Rattle.watched_ends.proofs.PlaceLemmas.{none_later}
use Rattle.watched_ends.proofs.places.may_come.Goals as goal

pub returns-in-Some : goal.returns-in-Some
returns-in-Some c = λ up last late. none_later up c.args.places.now c.args.tag c.args.next last
    (λ at later before.
    let there : at < c.in-Some.place = subst (IsBefore at) (sym c.look.ensures ∙ c.in-Some.is) before in
    let last : c.in-Some.place ≤ c.args.next = ltb-false c.args.next c.in-Some.place late in
    omega (arith, later, there, last))

pub returns-in-None : goal.returns-in-None
returns-in-None c = λ up last late. none_later up c.args.places.now c.args.tag c.args.next last
    (λ at later before. subst (IsBefore at) (sym c.look.ensures ∙ c.in-None.is) before)
