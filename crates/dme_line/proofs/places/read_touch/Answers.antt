use Rattle.dme_line.proofs.Names.{◌≡◌, length, refl, the_list}
use Rattle.dme_line.proofs.PlaceLemmas.{no_target, no_along}
use Rattle.dme_line.proofs.places.read_touch.Goals as goal

pub returns-in_err-target : goal.returns-in_err-target
returns-in_err-target c = rw c.from_residual-in_err-target.ensures
    (no_target _ (the_list c.in_ok-place.place) c.in_ok-place.ensures c.in_err-target.ensures)

pub returns-in_err-direction-in-Some : goal.returns-in_err-direction-in-Some
returns-in_err-direction-in-Some c =
    let four : length (the_list c.in_ok-place.place) ≡ 4 = rw c.in-Some.is refl in
    rw c.from_residual-in_err-direction-in-Some.ensures (no_along _ (the_list c.in_ok-place.place) c.in_ok-place.ensures four
    c.in_err-direction-in-Some.ensures)
