use Rattle.contact_ledger.proofs.Names.{[], ◌∷◌, arith, IsOnWire, length-append}
use Rattle.contact_ledger.proofs.FeatureShapes.{all_more}
use Rattle.contact_ledger.proofs.places.behind_point.Goals as goal

pub returns-in_ok-push-in-Some-clause-sound : goal.returns-in_ok-push-in-Some-clause-sound
returns-in_ok-push-in-Some-clause-sound c features =
    let h = c.requires.sound [] in
    let m = c.requires.missing in
    rw c.in_ok-push-in-Some.ensures.0 (
      h.0,
      all_more IsOnWire c.args.points c.in-Some.point h.1 c.in-Some.ensures.0,
      omega (arith, length-append c.args.points (c.in-Some.point ∷ []), m),
    )
