-- Where a polar point is (ISO 22093, POL), and how far from it a place may be: inequalities between whole numbers alone, as in `Nearness`
-- of program_flow, and no arithmetic of this profile.
use Rattle.std.specs.Prelude.{◌≡◌, ℕ, ℤ, pos, ◌+◌, ◌*◌, ◌<◌, ◌≤◌, IsSomeAnd, Some, unsigned_abs}
use Rattle.program_flow.specs.Nearness.{Balance, IsInRadians, balance, partial_sum, times, turned_with}
use Rattle.program_flow.specs.Numbers.{Fraction, whole_number}
use Rattle.program_lowering.specs.Cartesian.{Triple, no_reference}
use Rattle.program_lowering.specs.declared.cartesian.AngleUnit.{AngleUnit}
use Rattle.program_lowering.specs.declared.cartesian.AngleUnit.TheVariants.{Radians}
use Rattle.program_lowering.specs.declared.cartesian.Plane.{Plane}
use Rattle.program_lowering.specs.declared.cartesian.Plane.TheVariants.{Xy, Yz, Zx}
use Rattle.program_lowering.specs.declared.cartesian.Reference.{Reference}

-- a - b is at most over / under
pub record IsPastBy (over under : ℕ) (a b : Balance) : Type 0 where
  pub little : (a.plus * b.under + b.minus * a.under) * under ≤ (b.plus * a.under + a.minus * b.under) * under + over * (a.under * b.under)

-- d is a number within over / under of each from one to another
pub record IsCloseTo (over under : ℕ) (lower upper d : Balance) : Type 0 where
  pub some : 0 < d.under
  pub below : IsPastBy over under upper d
  pub above : IsPastBy over under d lower

-- the angle in radians: within 10 ^ -12, unless it is in radians
abbrev pub IsTurn : AngleUnit → Fraction → Fraction → Type 0
IsTurn Radians angle turn = angle ≡ turn
IsTurn _ angle turn = IsInRadians angle turn

-- the radius times a partial sum of the cosine, and of the sine, of a turn; radius and turn without their signs (see `Nearness`)
abbrev pub by_cosine : Fraction → Fraction → ℕ → Balance
by_cosine radius turn n = times (unsigned_abs radius.over) radius.under (partial_sum (unsigned_abs turn.over) turn.under n 1)

abbrev pub by_sine : Fraction → Fraction → ℕ → Balance
by_sine radius turn n = times (unsigned_abs radius.over) radius.under
    (times (unsigned_abs turn.over) turn.under (partial_sum (unsigned_abs turn.over) turn.under n 2))

-- the first coordinate is within over / under of the radius times each number between two partial sums of the cosine of the turn, so times the
-- true one; likewise the second, of its sine. The third is the height
pub record IsAround (over under : ℕ) (unit : AngleUnit) (polar place : Triple) : Type 0 where
  pub turn : Fraction
  pub some : 0 < turn.under
  pub turned : IsTurn unit polar.1 turn
  pub cosines : ℕ
  pub sines : ℕ
  pub first : IsCloseTo over under (by_cosine polar.0 turn (2 * cosines + 1)) (by_cosine polar.0 turn (2 * cosines)) (balance (turned_with polar.0 place.0))
  pub second : IsCloseTo over under (by_sine polar.0 turn (2 * sines + 1)) (by_sine polar.0 turn (2 * sines))
      (balance (turned_with turn (turned_with polar.0 place.1)))
  pub height : place.2 ≡ polar.2

-- a place by the axes of a plane: along the first, the second and that of the height
abbrev pub in_axes : Plane → Triple → Triple
in_axes Xy place = place
in_axes Yz place = (place.1, place.2, place.0)
in_axes Zx place = (place.2, place.0, place.1)

-- a radius, an angle and a height, and a place
abbrev pub IsNearPolar : ℕ → ℕ → Reference → Triple → Triple → Type 0
IsNearPolar over under ref polar place = IsSomeAnd ref.plane (λ plane. IsAround over under ref.unit polar (in_axes plane place))

-- for examples: polar coordinates with radius 10 and height 5, a place at this height in millionths, and radians
abbrev pub turned_by : ℕ → Triple
turned_by angle = (whole_number (pos 10), whole_number (pos angle), whole_number (pos 5))

abbrev pub placed_at : ℤ → ℤ → Triple
placed_at x y = (record { over = x; under = 1000000 }, record { over = y; under = 1000000 }, whole_number (pos 5))

abbrev pub by_radians : Reference
by_radians = record no_reference { unit = Radians }
