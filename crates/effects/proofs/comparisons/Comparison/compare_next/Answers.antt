use Rattle.std.proofs.Common.{◌≤◌, ap, length, map, subst, ℕ}
use Rattle.effects.specs.Naming.{seen_of}
use Rattle.effects.specs.Comparing.{State}
use Rattle.effects.specs.declared.comparisons.Stage.TheVariants as stage
use Rattle.effects.proofs.Comparing.{all_compared}
use Rattle.effects.proofs.comparisons.Comparison.compare_next.Goals as goal

pub returns-clause-goes : goal.returns-clause-goes
returns-clause-goes c =
    let t : State = record {
      stage = stage.Apart;
      at = c.self.inside.at;
      files = c.self.inside.files;
      place = c.self.inside.place.items;
      called = map seen_of c.self.inside.called.items;
      status = c.self.inside.status;
    } in
    λ a h. all_compared c.args.self.now t a (ap (λ (s : State). s.called) c.self.view_is) (ap (λ (s : State). s.files) c.self.view_is)
    (subst (λ (s : State). length s.files.names ≤ s.at) c.self.view_is
    (subst (λ (n : ℕ). n ≤ c.self.inside.at) c.count.ensures c.if-self-count.false)) h
