-- The touches that a program asks for (ISO 22093), each with the point that was measured, if it was, and how far that lies from its target.
use Rattle.std.specs.Prelude.{◌≡◌, ⊤, ℕ, ◌+◌, ℤ, List, [], ◌∷◌, ◌++◌, Option, Some, None, option_map}
use Rattle.fixed_um.specs.Shapes.{Direction}
use Rattle.fixed_um.specs.declared.lengths.Point.{Point}
use Rattle.contact_ledger.specs.declared.features.Origin.{Origin}
use Rattle.contact_ledger.specs.declared.features.Feature.{Feature}
use Rattle.dmis_program.specs.declared.features.Touch.{Touch}
use Rattle.dmis_program.specs.declared.features.Wanted.{Wanted}
use Rattle.deviations.specs.Along.{deviation, IsAlong}
use Rattle.deviations.specs.declared.along.Deviation.{Deviation}

-- a point: its feature, its number there, from 1, the touch that asks for it, where it was measured, if it was, and the number of the
-- connection that its feature comes from, if known
pub record Place : Type 0 where
  pub feature : List ℕ
  pub number : ℕ
  pub touch : Touch
  pub measured : Option Point
  pub connection : Option ℕ

-- the places of a feature's points from a number on
abbrev pub places_from : List ℕ → Option ℕ → ℕ → List Touch → List Point → List Place
places_from feature connection number touches [] = []
places_from feature connection number [] (p ∷ points) = []
places_from feature connection number (t ∷ touches) (p ∷ points) =
    record { feature = feature; number = number; touch = t; measured = Some p; connection = connection }
    ∷ places_from feature connection (number + 1) touches points

-- the connection of an origin
abbrev pub connection_of : Option Origin → Option ℕ
connection_of origin = option_map (λ (o : Origin). o.connection) origin

-- the places of a feature's points
abbrev pub feature_places : Wanted → Feature → List Place
feature_places w f = places_from f.label (connection_of f.origin) 1 w.touches f.points

-- the places of touches that are still to be made, from a number on
abbrev pub open_places : List ℕ → ℕ → List Touch → List Place
open_places feature number [] = []
open_places feature number (t ∷ touches) =
    record { feature = feature; number = number; touch = t; measured = None; connection = None } ∷ open_places feature (number + 1) touches

-- the places of features that are missing
abbrev pub missing_places : List Wanted → List Place
missing_places [] = []
missing_places (w ∷ wanted) = open_places w.label 1 w.touches ++ missing_places wanted

-- the places of features, paired with the first features of a program, and then of those that are missing
abbrev pub places_of : List Wanted → List Feature → List Place
places_of wanted [] = missing_places wanted
places_of [] (f ∷ features) = []
places_of (w ∷ wanted) (f ∷ features) = feature_places w f ++ places_of wanted features

-- a row of a table of deviations
pub record Row : Type 0 where
  pub place : Place
  pub deviation : Option Deviation
  pub along : Option ℤ

-- there is a deviation along the normal exactly if there is a normal
abbrev pub IsAlongNormal : Deviation → Option Direction → Option ℤ → Type 0
IsAlongNormal v (Some d) (Some r) = IsAlong v d r
IsAlongNormal v None None = ⊤
IsAlongNormal v _ _ = ⊥

-- how far a point was measured from the target of a touch, and along its normal; nothing if it was not measured
abbrev pub IsAway : Option Point → Touch → Option Deviation → Option ℤ → Type 0
IsAway (Some p) t (Some v) along = (v ≡ deviation p t.target) × IsAlongNormal (deviation p t.target) t.dir along
IsAway None t None None = ⊤
IsAway _ t _ _ = ⊥

-- a row gives a place and how far it was measured from its target
pub record IsRow (p : Place) (r : Row) : Type 0 where
  pub place : r.place ≡ p
  pub away : IsAway p.measured p.touch r.deviation r.along
