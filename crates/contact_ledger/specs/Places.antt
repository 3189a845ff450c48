-- The places of a text of features, line by line, as the code keeps them: no public clause cites this.
use Rattle.std.specs.Prelude.{◌≡◌, ℕ, ◌<◌, ◌≤◌, ◌⊎◌, List, [], ◌∷◌, ◌++◌, length, codes}
use Rattle.std.specs.List.{AllByRecursion}
use Rattle.fixed_um.specs.declared.lengths.Point.{Point}
use Rattle.contact_ledger.specs.Fields.{IsOnWire}
use Rattle.contact_ledger.specs.FeatureTexts.{IsOpening, header, opening_line, point_line}
use Rattle.contact_ledger.specs.declared.features.Feature.{Feature}
use Rattle.contact_ledger.specs.declared.openings.Opening.{Opening}
use Rattle.contact_ledger.specs.declared.openings.Version.{Version}
use Rattle.contact_ledger.specs.declared.places.Place.{Place}
use Rattle.contact_ledger.specs.declared.places.Place.TheVariants.{Start, Between, Within}

-- the feature of an opening and its points
abbrev pub feature_of : Opening → List Point → Feature
feature_of o points = record { label = o.label; points = points; origin = o.origin }

-- what is known at a place: nothing is read at the start, and within a feature no more points than it has
abbrev pub IsSound : List Feature → Place → Type 0
IsSound features Start = features ≡ []
IsSound features (Between version) = Unit {0}
IsSound features (Within version o points) = IsOpening version o × AllByRecursion IsOnWire points × (length points ≤ o.count)

-- a point's line within a feature, while points are missing
pub record AddsPoint (features : List Feature) (version : Version) (o : Opening) (points : List Point) (line : List ℕ)
    (new : List Feature) (place : Place) : Type 0 where
  pub point : Point
  pub on_wire : IsOnWire point
  pub missing : length points < o.count
  pub line_is : line ≡ point_line point
  pub same : new ≡ features
  pub next : place ≡ Within version o (points ++ point ∷ [])

-- END, if no point is missing
pub record EndsFeature (features : List Feature) (version : Version) (o : Opening) (points : List Point) (line : List ℕ)
    (new : List Feature) (place : Place) : Type 0 where
  pub whole : length points ≡ o.count
  pub line_is : line ≡ codes "END"
  pub more : new ≡ features ++ feature_of o points ∷ []
  pub next : place ≡ Between version

-- one line leads from a place to the next
abbrev pub Next : List Feature → Place → List ℕ → List Feature → Place → Type 0
Next features Start line new place = (version : Version) × (line ≡ header version) × (new ≡ features) × (place ≡ Between version)
Next features (Between version) line new place = (o : Opening) × IsOpening version o × (line ≡ opening_line version o)
    × (new ≡ features) × (place ≡ Within version o [])
Next features (Within version o points) line new place = AddsPoint features version o points line new place
    ⊎ EndsFeature features version o points line new place
