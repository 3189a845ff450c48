-- Round scales: 1, 2, 2.5, 3, 4 or 5 times a power of ten to one, or one to that. Most are those of drawings (ISO 5455).
use Rattle.std.specs.Prelude.{◌≡◌, ℕ, zero, suc, ◌+◌, ◌-◌, ◌*◌, ◌/◌, ◌%◌, ◌^◌, ◌≤◌, ◌<◌}
use Rattle.drawings.specs.declared.scales.Lengths.{Lengths}
use Rattle.drawings.specs.declared.scales.Room.{Room}

-- the first digits of round lengths, in turn
abbrev pub leading : ℕ → ℕ
leading zero = 1
leading (suc zero) = 2
leading (suc (suc _)) = 5

-- the round lengths in their order: 1, 2, 5, 10, 20, 50, ..
abbrev pub round : ℕ → ℕ
round index = leading (index % 3) * 10 ^ (index / 3)

-- ten times the first numbers of scales, in turn
abbrev pub first_tenths : ℕ → ℕ
first_tenths zero = 10
first_tenths (suc zero) = 20
first_tenths (suc (suc zero)) = 25
first_tenths (suc (suc (suc zero))) = 30
first_tenths (suc (suc (suc (suc zero)))) = 40
first_tenths (suc (suc (suc (suc (suc _))))) = 50

-- ten times the numbers of scales in their order: 10, 20, 25, 30, 40, 50, 100, ..
abbrev pub tenths : ℕ → ℕ
tenths index = first_tenths (index % 6) * 10 ^ (index / 6)

-- scales in their order, from 10,000:1 over 1:1, which is number 24, down to 1:2,000,000, number 61; both sides of the ratio in tenths
unfoldable pub numerator : ℕ → ℕ
numerator scale = tenths (24 - scale)

unfoldable pub denominator : ℕ → ℕ
denominator scale = tenths (scale - 24)

-- a length on paper, in whole micrometres, rounded down
unfoldable pub on_paper : ℕ → ℕ → ℕ
on_paper scale length = length * numerator scale / denominator scale

-- at a scale, a length fits across the paper, and two fit above each other
pub record Fits (scale : ℕ) (lengths : Lengths) (room : Room) : Type 0 where
  pub across : on_paper scale lengths.across ≤ room.across
  pub upright : on_paper scale lengths.first + on_paper scale lengths.second ≤ room.upright

-- there is nothing to draw
pub record AreNothing (lengths : Lengths) : Type 0 where
  pub across : lengths.across ≡ 0
  pub first : lengths.first ≡ 0
  pub second : lengths.second ≡ 0

-- the largest scale at which the lengths fit; 1:1 if there is nothing to draw
pub record IsScaleFor (lengths : Lengths) (room : Room) (scale : ℕ) : Type 0 where
  pub full : AreNothing lengths → scale ≡ 24
  pub fits : Fits scale lengths room
  pub largest : (larger : ℕ) → larger < scale → Fits larger lengths room → AreNothing lengths

-- a drawn length, in micrometres: no span of the machine is longer
abbrev pub length_limit : ℕ
length_limit = 16000000000

pub record AreShort (lengths : Lengths) : Type 0 where
  pub across : lengths.across ≤ length_limit
  pub first : lengths.first ≤ length_limit
  pub second : lengths.second ≤ length_limit
