use Rattle.std.proofs.Common.{◌≡◌, Decides, rules}
use Rattle.std.proofs.lemmas.Slice.Eq.{slice_eq-Decides}
use Rattle.run_opening.proofs.firsts.is_alike.Goals as goal

pub returns-then-eq : goal.returns-then-eq
returns-then-eq c =
    let same : Decides c.eq-then-eq.result (c.as_slice.result.now ≡ c.as_slice-then-eq.result.now) =
    slice_eq-Decides (λ a b. search rules) _ _ _ c.eq-then-eq.ensures in
    search rules
