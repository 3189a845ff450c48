-- Where a program stops the machine, and what was measured there. The steps before a step are given nearest first.
use Rattle.std.specs.Prelude.{Bool, true, false, filter, List, [], ◌∷◌, ◌++◌, drop}
use Rattle.contact_ledger.specs.declared.features.Feature.{Feature}
use Rattle.dmis_program.specs.declared.steps.Step.{Step}
use Rattle.dmis_program.specs.declared.steps.Step.TheVariants.{Goto, Begin, Touch, Tool, Recall, End}
use Rattle.fixed_um.specs.Points.{zero_point}
use Rattle.fixed_um.specs.declared.frames.Frame.{Frame}
use Rattle.fixed_um.specs.declared.frames.Frame.TheVariants.{Machine, Part}
use Rattle.fixed_um.specs.declared.lengths.Point.{Point}
use Rattle.dmis_program.specs.declared.features.Touch as touch
use Rattle.drawings.specs.Places.{place_of, gap_of}
use Rattle.drawings.specs.declared.walk.Act.{Act}
use Rattle.drawings.specs.declared.walk.Act.TheVariants as act
use Rattle.drawings.specs.declared.walk.Stop.{Stop}

-- where the zero point of a frame is, in machine axes
abbrev pub zero_of : Frame → Point
zero_of Machine = zero_point
zero_of (Part offset) = offset

-- the zero point of the selected frame: the one recalled, or touched in, most recently; the machine's if none was
abbrev pub zero_with : Step → Point → Point
zero_with (Goto target) above = above
zero_with (Begin name) above = above
zero_with (Touch t) above = zero_of t.frame
zero_with (Tool name) above = above
zero_with (Recall offset) above = offset
zero_with End above = above

abbrev pub zero_below : List Step → Point
zero_below [] = zero_point
zero_below (step ∷ above) = zero_with step (zero_below above)

-- the features left for later blocks: each block that begins takes the next one
abbrev pub later_with : Step → List Feature → List Feature
later_with (Goto target) features = features
later_with (Begin name) features = drop 1 features
later_with (Touch t) features = features
later_with (Tool name) features = features
later_with (Recall offset) features = features
later_with End features = features

abbrev pub later_features : List Feature → List Step → List Feature
later_features features [] = features
later_features features (step ∷ above) = later_with step (later_features features above)

-- the points of the next feature
abbrev pub next_points : List Feature → List Point
next_points [] = []
next_points (f ∷ features) = f.points

-- the points that are left for touches: a block that begins brings those of the next feature, each touch takes one, and where the block
-- ends no points are left
abbrev pub points_with : Step → List Feature → List Point → List Point
points_with (Goto target) features points = points
points_with (Begin name) features points = next_points features
points_with (Touch t) features points = drop 1 points
points_with (Tool name) features points = points
points_with (Recall offset) features points = points
points_with End features points = []

abbrev pub points_left : List Feature → List Step → List Point
points_left features [] = []
points_left features (step ∷ above) = points_with step (later_features features above) (points_left features above)

-- a touch has measured the first of the points that are left for it; if no point is left, it has not been made yet
abbrev pub act_by : List Point → touch.Touch → Act
act_by [] t = act.Touch
act_by (p ∷ points) t = act.Measured (gap_of p t)

-- the stop of a step: a move has one, and a touch, each in its frame
abbrev pub stops_at : Point → List Point → Step → List Stop
stops_at zero points (Goto target) = record { place = place_of target zero; act = act.Move } ∷ []
stops_at zero points (Begin name) = []
stops_at zero points (Touch t) = record { place = place_of t.target (zero_of t.frame); act = act_by points t } ∷ []
stops_at zero points (Tool name) = []
stops_at zero points (Recall offset) = []
stops_at zero points End = []

-- the stops of the steps from here on, by the steps before them
abbrev pub stops_from : List Feature → List Step → List Step → List Stop
stops_from features above [] = []
stops_from features above (step ∷ steps) = stops_at (zero_below above) (points_left features above) step
    ++ stops_from features (step ∷ above) steps

-- the stops of a program, with the features that were measured first
unfoldable pub stops_of : List Step → List Feature → List Stop
stops_of steps features = stops_from features [] steps

-- a stop that is a touch, made or not
abbrev pub is_asked : Act → Bool
is_asked (act.Measured gap) = true
is_asked act.Move = false
is_asked act.Touch = true

abbrev pub touches_among : List Stop → List Stop
touches_among stops = filter (λ (s : Stop). is_asked s.act) stops

-- the first of two lists that has an item
abbrev pub first_with_any : List Stop → List Stop → List Stop
first_with_any [] others = others
first_with_any (s ∷ stops) others = s ∷ stops

-- the stops that the views must show: the touches; all if there is no touch. The way of the machine may lead out of a view
abbrev pub shown_stops : List Stop → List Stop
shown_stops stops = first_with_any (touches_among stops) stops
