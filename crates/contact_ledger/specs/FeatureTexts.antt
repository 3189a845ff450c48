-- The text of a list of features (this profile): version 2 is written, version 1 has no origins.
use Rattle.std.specs.Prelude.{◌≡◌, ◌⊎◌, ℕ, ◌<◌, ◌≤◌, List, [], ◌∷◌, ◌++◌, length, map, codes, decimal, Option, Some, None}
use Rattle.std.specs.List.{AllByRecursion}
use Rattle.fixed_um.specs.Names.{IsName}
use Rattle.fixed_um.specs.declared.lengths.Point.{Point}
use Rattle.contact_ledger.specs.Ledgers.{IsConnection, IsOrigin}
use Rattle.contact_ledger.specs.Lines.{text_of, whole_lines, line_of}
use Rattle.contact_ledger.specs.Fields.{IsOnWire, IsFrame, point_fields, frame_fields}
use Rattle.contact_ledger.specs.Damage.{IsDamaged}
use Rattle.contact_ledger.specs.declared.features.Origin.{Origin}
use Rattle.contact_ledger.specs.declared.features.Feature.{Feature}
use Rattle.contact_ledger.specs.declared.openings.Opening.{Opening}
use Rattle.contact_ledger.specs.declared.openings.Version.{Version}
use Rattle.contact_ledger.specs.declared.openings.Version.TheVariants.{First, Second}

-- a feature has 1 to 10,000 points
abbrev pub points_most : ℕ
points_most = 10000

abbrev pub IsPointCount : ℕ → Type 0
IsPointCount n = (1 ≤ n) × (n ≤ points_most)

-- what a feature must have to be written: such a count of points, and an origin with a number that a connection may have
abbrev pub CanBeWritten : Feature → Type 0
CanBeWritten f = IsPointCount (length f.points) × IsOrigin f.origin

-- an origin whose connection and frame can be written
abbrev pub IsWrittenOrigin : Option Origin → Type 0
IsWrittenOrigin None = Unit {0}
IsWrittenOrigin (Some origin) = IsConnection origin.connection × IsFrame origin.frame

-- an origin that a version knows: the first knows none
abbrev pub IsKnown : Version → Option Origin → Type 0
IsKnown First origin = origin ≡ None
IsKnown Second origin = Unit {0}

-- a feature that can be written in a version
pub record IsFeature (version : Version) (f : Feature) : Type 0 where
  pub named : IsName f.label
  pub counted : IsPointCount (length f.points)
  pub points : AllByRecursion IsOnWire f.points
  pub origin : IsWrittenOrigin f.origin
  pub known : IsKnown version f.origin

abbrev pub AreFeatures : Version → List Feature → Type 0
AreFeatures version features = AllByRecursion (IsFeature version) features

-- the first line of a text
abbrev pub header : Version → List ℕ
header First = codes "DME-FEATURES 1"
header Second = codes "DME-FEATURES 2"

-- - where the origin is unknown; else its connection and frame
abbrev pub origin_fields : Option Origin → List (List ℕ)
origin_fields None = codes "-" ∷ []
origin_fields (Some origin) = decimal origin.connection ∷ frame_fields origin.frame

-- the same where the version knows origins
abbrev pub known_fields : Version → Option Origin → List (List ℕ)
known_fields First origin = []
known_fields Second origin = origin_fields origin

-- what an opening line says can be written in a version
pub record IsOpening (version : Version) (o : Opening) : Type 0 where
  pub named : IsName o.label
  pub counted : IsPointCount o.count
  pub origin : IsWrittenOrigin o.origin
  pub known : IsKnown version o.origin

-- FEATURE name n, and the origin where the version knows origins
abbrev pub opening_line : Version → Opening → List ℕ
opening_line version o = line_of (codes "FEATURE" ∷ o.label ∷ decimal o.count ∷ known_fields version o.origin)

-- what the opening line of a feature says
abbrev pub opening_of : Feature → Opening
opening_of f = record { label = f.label; count = length f.points; origin = f.origin }

-- x y z
abbrev pub point_line : Point → List ℕ
point_line p = line_of (point_fields p)

-- the lines of a feature: its opening, its points, END
abbrev pub feature_lines : Version → Feature → List (List ℕ)
feature_lines version f = opening_line version (opening_of f) ∷ (map point_line f.points ++ codes "END" ∷ [])

-- the lines of features
abbrev pub lines_of_all : Version → List Feature → List (List ℕ)
lines_of_all version [] = []
lines_of_all version (f ∷ features) = feature_lines version f ++ lines_of_all version features

-- the text of a list of features
abbrev pub features_text : Version → List Feature → List ℕ
features_text version features = text_of (header version ∷ lines_of_all version features)

-- a prefix of the lines of a feature, and not all of them
pub record IsFront (version : Version) (lines : List (List ℕ)) (feature : Feature) : Type 0 where
  pub writable : IsFeature version feature
  pub behind : List (List ℕ)
  pub front : feature_lines version feature ≡ lines ++ behind
  pub short : 0 < length behind

-- no line, or such a prefix of one more feature
abbrev pub IsTorn : Version → List (List ℕ) → Type 0
IsTorn version lines = (lines ≡ []) ⊎ ((feature : Feature) × IsFront version lines feature)

-- the lines are those of these features under a header, and of a feature that is torn
pub record HoldFeatures (lines : List (List ℕ)) (features : List Feature) : Type 0 where
  pub version : Version
  pub rest : List (List ℕ)
  pub writable : AreFeatures version features
  pub whole : lines ≡ header version ∷ (lines_of_all version features ++ rest)
  pub torn : IsTorn version rest

-- whole lines say these features: they hold them, or there is no line
pub data AreFeatureLines (lines : List (List ℕ)) (features : List Feature) : Type 0 where
  none : lines ≡ [] → features ≡ [] → AreFeatureLines lines features
  some : HoldFeatures lines features → AreFeatureLines lines features

-- a text says these features; what follows its last LF is not examined
abbrev pub IsFeatures : List ℕ → List Feature → Type 0
IsFeatures bytes features = AreFeatureLines (whole_lines bytes) features

-- line n of a text is the first that is unexpected
abbrev pub IsDamagedFeatures : List ℕ → ℕ → Type 0
IsDamagedFeatures bytes n = IsDamaged (λ lines. (features : List Feature) × AreFeatureLines lines features) (whole_lines bytes) n
