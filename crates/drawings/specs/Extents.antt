-- The ranges that stops occupy along each axis.
use Rattle.std.specs.Prelude.{◌≡◌, ℤ, pos, ◌≤ℤ◌, List, [], ◌∷◌}
use Rattle.std.specs.List.{AllByRecursion}
use Rattle.drawings.specs.Places.{IsBetween, IsWider}
use Rattle.drawings.specs.declared.extents.Extents.{Extents}
use Rattle.drawings.specs.declared.places.Place.{Place}
use Rattle.drawings.specs.declared.walk.Stop.{Stop}

-- all stops lie between two coordinates along an axis
abbrev pub AreWithin : (Place → ℤ) → List Stop → ℤ → ℤ → Type 0
AreWithin axis stops low high = AllByRecursion (λ (s : Stop). IsBetween low high (axis s.place)) stops

-- all stops lie between these two, and these lie between any two others with that property
pub record AreNearest (axis : Place → ℤ) (stops : List Stop) (low high : ℤ) : Type 0 where
  pub within : AreWithin axis stops low high
  pub nearest : (lower higher : ℤ) → AreWithin axis stops lower higher → (lower ≤ℤ low) × (high ≤ℤ higher)

-- the range of stops along an axis; the zero point alone if there is no stop
abbrev pub Reach : (Place → ℤ) → List Stop → ℤ → ℤ → Type 0
Reach axis [] low high = (low ≡ pos 0) × (high ≡ pos 0)
Reach axis (first ∷ stops) low high = AreNearest axis (first ∷ stops) low high

abbrev pub x_of : Place → ℤ
x_of p = p.x

abbrev pub y_of : Place → ℤ
y_of p = p.y

abbrev pub z_of : Place → ℤ
z_of p = p.z

-- the spans that stops occupy along the three axes
pub record AreFilled (stops : List Stop) (e : Extents) : Type 0 where
  pub x : Reach x_of stops e.x.low e.x.high
  pub y : Reach y_of stops e.y.low e.y.high
  pub z : Reach z_of stops e.z.low e.z.high

-- the extents of one place alone
pub record IsAlone (p : Place) (e : Extents) : Type 0 where
  pub x_low : e.x.low ≡ p.x
  pub x_high : e.x.high ≡ p.x
  pub y_low : e.y.low ≡ p.y
  pub y_high : e.y.high ≡ p.y
  pub z_low : e.z.low ≡ p.z
  pub z_high : e.z.high ≡ p.z

-- extents enlarged to include a place
pub record TakesIn (e : Extents) (p : Place) (e' : Extents) : Type 0 where
  pub x : IsWider e.x.low e.x.high p.x e'.x.low e'.x.high
  pub y : IsWider e.y.low e.y.high p.y e'.y.low e'.y.high
  pub z : IsWider e.z.low e.z.high p.z e'.z.low e'.z.high
