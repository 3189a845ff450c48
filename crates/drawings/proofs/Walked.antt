-- A walk over the steps of a program.
use Rattle.drawings.proofs.Names.{[], ◌++◌, ◌∙◌, ◌∷◌, ◌≡◌, ap, append-nil, append_assoc, later_features, later_with, List, points_left, points_with}
use Rattle.drawings.proofs.Names.{refl, Step, Stop, stops_at, stops_from, sym, zero_below, zero_with}
use Rattle.contact_ledger.specs.declared.features.Feature.{Feature}
use Rattle.fixed_um.specs.declared.lengths.Point.{Point}
use Rattle.fixed_um.specs.Points.{zero_point}

-- the state is that after the steps so far, and the stops so far and those of the steps that are left are all stops
pub record Walked (steps : List Step) (features : List Feature) (left : List Step) (stops : List Stop) (zero : Point) (later : List Feature)
    (points : List Point) : Type 0 where
  pub above : List Step
  pub zero_is : zero ≡ zero_below above
  pub later_is : later ≡ later_features features above
  pub points_are : points ≡ points_left features above
  pub stops_are : stops ++ stops_from features above left ≡ stops_from features [] steps

pub walked_none : (steps : List Step) (features : List Feature) → Walked steps features steps [] zero_point features []
walked_none steps features = record {
  above = [];
  zero_is = refl;
  later_is = refl;
  points_are = refl;
  stops_are = refl;
}

pub walked_more : (steps : List Step) (features : List Feature) (step : Step) (left : List Step) (stops stops' : List Stop) (zero zero' : Point)
    (later later' : List Feature) (points points' : List Point) → Walked steps features (step ∷ left) stops zero later points
    → stops' ≡ stops ++ stops_at zero points step → zero' ≡ zero_with step zero → later' ≡ later_with step later
    → points' ≡ points_with step later points → Walked steps features left stops' zero' later' points'
walked_more steps features step left stops stops' zero zero' later later' points points' w s z l p = record {
  above = step ∷ w.above;
  zero_is = z ∙ ap (zero_with step) w.zero_is;
  later_is = l ∙ ap (later_with step) w.later_is;
  points_are = p ∙ (ap (λ (f : List Feature). points_with step f points) w.later_is
      ∙ ap (points_with step (later_features features w.above)) w.points_are);
  stops_are = rw s (rw w.zero_is (rw w.points_are (append_assoc stops
      (stops_at (zero_below w.above) (points_left features w.above) step) (stops_from features (step ∷ w.above) left) ∙ w.stops_are)));
}

pub walked_all : (steps : List Step) (features : List Feature) (stops : List Stop) (zero : Point) (later : List Feature) (points : List Point)
    → Walked steps features [] stops zero later points → stops ≡ stops_from features [] steps
walked_all steps features stops zero later points w = sym (append-nil stops) ∙ w.stops_are
