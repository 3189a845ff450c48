use Rattle.std.proofs.Common.{◌∷◌, [], ◌++◌, ◌≡◌, ◌≤◌, ap, arith, map, refl, rules, subst, suc, sym, true, ℕ}
use Rattle.effects.specs.Naming.{IsClear, IsFirstMet, seen_of}
use Rattle.effects.specs.Comparing.{State}
use Rattle.effects.proofs.Comparing.{joined, refused, then_ok}
use Rattle.effects.proofs.comparisons.Comparison.add.Goals as goal

pub returns-clause-goes : goal.returns-clause-goes
returns-clause-goes c =
    let few : c.saturating_add-self-inside.result ≤ suc c.self.inside.at = omega arith in
    let more : c.push.new.self.items ≡ c.self.inside.called.items ++ c.args.called ∷ [] = search rules in
    let clear : IsClear true c.self.inside.files.written (map seen_of c.self.inside.called.items) (seen_of c.args.called) = search rules in
    let m : State = record {
      stage = c.self.inside.stage;
      at = c.saturating_add-self-inside.result;
      files = c.self.inside.files;
      place = c.self.inside.place.items;
      called = map seen_of c.push.new.self.items;
      status = c.self.inside.status;
    } in
    λ a at h. c.compare_next.ensures.goes (record a { seen = a.seen ++ seen_of c.args.called ∷ [] })
    (joined c.args.self.now m a c.args.called c.saturating_add-self-inside.result c.self.inside.called.items c.push.new.self.items
    (sym (ap (λ (s : State). s.called) c.self.view_is)) refl more (ap (λ (s : State). s.files) c.self.view_is) at
    (subst (λ (n : ℕ). c.saturating_add-self-inside.result ≤ suc n) (ap (λ (s : State). s.at) c.self.view_is) few)
    (subst (λ (s : State). IsClear true s.files.written (map seen_of c.self.inside.called.items) (seen_of c.args.called)) c.self.view_is clear) h)

pub returns-in-Some-clause-goes : goal.returns-in-Some-clause-goes
returns-in-Some-clause-goes c =
    let met : IsFirstMet true c.self.inside.files.written (map seen_of c.self.inside.called.items) c.in-Some.earlier (seen_of c.args.called)
    = search rules in
    then_ok c.refuse.result (refused c.args.self.now c.refuse.new.self c.self.inside.called.items c.in-Some.earlier c.args.called
    (sym (ap (λ (s : State). s.called) c.self.view_is))
    (subst (λ (s : State). IsFirstMet true s.files.written (map seen_of c.self.inside.called.items) c.in-Some.earlier (seen_of c.args.called)) c.self.view_is met))
    (search rules)
