-- Which touch of which feature of a program a touch of a connection is (this profile).
use Rattle.std.specs.Prelude.{◌≡◌, ◌≢◌, ◌+◌, ◌-◌, ◌≤◌, ℕ, min, List, length, drop, map}
use Rattle.dmis_program.specs.declared.features.Wanted.{Wanted}
use Rattle.session_telling.specs.Places.{IsBeyond, IsPlace}

-- how many features stand before the one of this number, from 1
abbrev pub features_before : ℕ → List Wanted → ℕ
features_before first wanted = min (first - 1) (length wanted)

-- how many touches each feature has
abbrev pub touch_counts : List Wanted → List ℕ
touch_counts wanted = map (λ w. length w.touches) wanted

-- likewise from the feature of this number on
abbrev pub counts_from : ℕ → List Wanted → List ℕ
counts_from first wanted = touch_counts (drop (features_before first wanted) wanted)

-- the touch of this number, among those of the features from `first` on, is this touch of this feature; zeros if there is none
pub record IsTouchOf (wanted : List Wanted) (first number feature touch : ℕ) : Type 0 where
  pub none : feature ≡ 0 → (touch ≡ 0) × IsBeyond (counts_from first wanted) number
  pub place : feature ≢ 0 → (features_before first wanted + 1 ≤ feature)
      × IsPlace (counts_from first wanted) number (feature - (features_before first wanted + 1)) touch
