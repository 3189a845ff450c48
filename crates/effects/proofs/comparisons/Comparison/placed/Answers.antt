use Rattle.std.proofs.Common.{◌≤◌, ◌∙◌, ap, arith, map, subst, suc, sym, ℕ}
use Rattle.effects.specs.Effects.{the_reply}
use Rattle.effects.specs.Naming.{seen_of}
use Rattle.effects.specs.Comparing.{State}
use Rattle.effects.proofs.Comparing.{unplaced}
use Rattle.effects.proofs.comparisons.Comparison.placed.Goals as goal

pub returns-in-None : goal.returns-in-None
returns-in-None c =
    let few : c.saturating_add-self-inside.result ≤ suc c.self-in-None.inside.at = omega arith in
    let m : State = record {
      stage = c.self-in-None.inside.stage;
      at = c.saturating_add-self-inside.result;
      files = c.self-in-None.inside.files;
      place = c.self-in-None.inside.place.items;
      called = map seen_of c.self-in-None.inside.called.items;
      status = c.self-in-None.inside.status;
    } in record {
      goes = unplaced c.args.self.now m c.compare_next.new.self (the_reply c.args.answer) c.requires (sym c.in-None.ensures)
          (ap (λ (s : State). s.called) c.self-in-None.view_is) (ap (λ (s : State). s.files) c.self-in-None.view_is)
          (subst (λ (n : ℕ). c.saturating_add-self-inside.result ≤ suc n) (ap (λ (s : State). s.at) c.self-in-None.view_is) few)
          c.compare_next.ensures.goes;
      files = c.compare_next.ensures.files ∙ ap (λ (s : State). s.files) c.self-in-None.view_is;
    }
