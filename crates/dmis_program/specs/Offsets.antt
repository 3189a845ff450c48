-- Stored frames, as a list of names with the places of their zero points.
use Rattle.std.specs.Prelude.{◌≢◌, ℕ, List, [], ◌∷◌, map, find, Option}
use Rattle.std.specs.List.{AllByRecursion}
use Rattle.std.specs.Option.{option_map}
use Rattle.std.specs.Str.{bytes_eq}
use Rattle.fixed_um.specs.Points.{IsInVolume}
use Rattle.fixed_um.specs.declared.lengths.Point.{Point}

-- the names in order
abbrev pub names_of : List (List ℕ × Point) → List (List ℕ)
names_of frames = map (λ (f : List ℕ × Point). f.0) frames

-- no name is there twice
abbrev pub AreDistinct : List (List ℕ) → Type 0
AreDistinct [] = Unit {0}
AreDistinct (name ∷ names) = AllByRecursion (λ other. name ≢ other) names × AreDistinct names

abbrev pub AreNamedOnce : List (List ℕ × Point) → Type 0
AreNamedOnce frames = AreDistinct (names_of frames)

-- each zero point is in the machine's volume
abbrev pub AreInVolume : List (List ℕ × Point) → Type 0
AreInVolume [] = Unit {0}
AreInVolume (f ∷ frames) = IsInVolume f.1 × AreInVolume frames

-- what stored frames are, always
pub record AreFrames (frames : List (List ℕ × Point)) : Type 0 where
  pub once : AreNamedOnce frames
  pub within : AreInVolume frames

-- the zero point of the frame of this name
abbrev pub offset_of : List (List ℕ × Point) → List ℕ → Option Point
offset_of frames name = option_map (λ (f : List ℕ × Point). f.1) (find (λ (f : List ℕ × Point). bytes_eq f.0 name) frames)
