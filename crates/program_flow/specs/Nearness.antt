-- What is near to a sine, a cosine, a tangent, an angle in radians or in degrees, or between numbers: inequalities between whole numbers alone.
use Rattle.std.specs.Prelude.{ℕ, zero, suc, ◌+◌, ◌*◌, ◌^◌, ◌<◌, ◌≤◌, Bool, false, pos, unsigned_abs, int_lt, if◌then◌else◌}
use Rattle.program_flow.specs.Numbers.{Fraction, opposite}

-- a number as a difference over a third: (plus - minus) / under
pub record Balance : Type 0 where
  pub plus : ℕ
  pub minus : ℕ
  pub under : ℕ

-- with or without a minus
abbrev pub sided : Bool → ℕ → ℕ → Balance
sided negative over under = if negative then record { plus = 0; minus = over; under = under } else record { plus = over; minus = 0; under = under }

abbrev pub balance : Fraction → Balance
balance f = sided (int_lt f.over (pos 0)) (unsigned_abs f.over) f.under

-- a - b is at most 10 ^ -12
pub record IsHardlyPast (a b : Balance) : Type 0 where
  pub little : (a.plus * b.under + b.minus * a.under) * 10 ^ 12 ≤ (b.plus * a.under + a.minus * b.under) * 10 ^ 12 + a.under * b.under

-- d is within 10 ^ -12 of each number from one to another
pub record IsWithin (lower upper d : Balance) : Type 0 where
  pub below : IsHardlyPast upper d
  pub above : IsHardlyPast d lower

abbrev pub times : ℕ → ℕ → Balance → Balance
times p q a = record { plus = p * a.plus; minus = p * a.minus; under = q * a.under }

-- 1 - (p / q) ^ 2 / c * a
abbrev pub one_less : ℕ → ℕ → ℕ → Balance → Balance
one_less p q c a = record { plus = q * q * c * a.under + p * p * a.minus; minus = p * p * a.plus; under = q * q * c * a.under }

-- 1 - x ^ 2 / (k (k + 1)) + x ^ 4 / (k .. (k + 3)) - .., with n terms after the first, for x = p / q
unfoldable pub partial_sum : ℕ → ℕ → ℕ → ℕ → Balance
partial_sum p q zero k = record { plus = 1; minus = 0; under = 1 }
partial_sum p q (suc n) k = one_less p q (k * (k + 1)) (partial_sum p q n (k + 2))

-- Taylor: for x from zero on, the cosine and the sine are not past a partial sum that ends with a plus, and not below one that ends with a minus.
-- So d is within 10 ^ -12 of the cosine
pub record IsCosine (f d : Fraction) : Type 0 where
  pub pairs : ℕ
  pub within : IsWithin (partial_sum (unsigned_abs f.over) f.under (2 * pairs + 1) 1) (partial_sum (unsigned_abs f.over) f.under (2 * pairs) 1) (balance d)

-- with the sign of another number turned
abbrev pub turned_with : Fraction → Fraction → Fraction
turned_with f d = if int_lt f.over (pos 0) then opposite d else d

-- of the sine: that of -x is the opposite one
pub record IsSine (f d : Fraction) : Type 0 where
  pub pairs : ℕ
  pub within : IsWithin (times (unsigned_abs f.over) f.under (partial_sum (unsigned_abs f.over) f.under (2 * pairs + 1) 2))
      (times (unsigned_abs f.over) f.under (partial_sum (unsigned_abs f.over) f.under (2 * pairs) 2)) (balance (turned_with f d))

-- the opposite, if it is asked for
abbrev pub flipped : Bool → Balance → Balance
flipped negative a = if negative then record { plus = a.minus; minus = a.plus; under = a.under } else a

abbrev pub product_of : Balance → Balance → Balance
product_of a b = record { plus = a.plus * b.plus + a.minus * b.minus; minus = a.plus * b.minus + a.minus * b.plus; under = a.under * b.under }

-- 10 ^ -12 more, and less
abbrev pub more : Balance → Balance
more a = record { plus = a.plus * 10 ^ 12 + a.under; minus = a.minus * 10 ^ 12; under = a.under * 10 ^ 12 }

abbrev pub less : Balance → Balance
less a = record { plus = a.plus * 10 ^ 12; minus = a.minus * 10 ^ 12 + a.under; under = a.under * 10 ^ 12 }

pub record IsAtMost (a b : Balance) : Type 0 where
  pub little : a.plus * b.under + b.minus * a.under ≤ b.plus * a.under + a.minus * b.under

-- c is above zero, and d is within 10 ^ -12 of s / c
pub record IsQuotient (s c d : Balance) : Type 0 where
  pub some : c.minus < c.plus
  pub below : IsAtMost s (product_of (more d) c)
  pub above : IsAtMost (product_of (less d) c) s

-- of partial sums with m and n terms after the first, both with their signs turned or neither
abbrev pub IsTangentBy : Fraction → Fraction → Bool → ℕ → ℕ → Type 0
IsTangentBy f d negative m n = IsQuotient
    (times (unsigned_abs f.over) f.under (flipped negative (partial_sum (unsigned_abs f.over) f.under m 2)))
    (flipped negative (partial_sum (unsigned_abs f.over) f.under n 1)) (balance (turned_with f d))

-- of the tangent: the sine is between two partial sums, and so is the cosine, which is not zero. What is said is linear in both, so it holds
-- between them if it holds at the ends
pub record IsTangent (f d : Fraction) : Type 0 where
  pub negative : Bool
  pub pairs : ℕ
  pub upper_upper : IsTangentBy f d negative (2 * pairs) (2 * pairs)
  pub upper_lower : IsTangentBy f d negative (2 * pairs) (2 * pairs + 1)
  pub lower_upper : IsTangentBy f d negative (2 * pairs + 1) (2 * pairs)
  pub lower_lower : IsTangentBy f d negative (2 * pairs + 1) (2 * pairs + 1)

-- pi is 3.14159265358979323846264338.., so between these, in units of 10 ^ -20
abbrev pub pi_lower : ℕ
pi_lower = 314159265358979323846

abbrev pub pi_upper : ℕ
pi_upper = 314159265358979323847

-- of f pi / 180
abbrev pub IsInRadians : Fraction → Fraction → Type 0
IsInRadians f d = IsWithin (times (unsigned_abs f.over) f.under (sided false pi_lower (180 * 10 ^ 20)))
    (times (unsigned_abs f.over) f.under (sided false pi_upper (180 * 10 ^ 20))) (balance (turned_with f d))

-- of 180 f / pi
abbrev pub IsInDegrees : Fraction → Fraction → Type 0
IsInDegrees f d = IsWithin (times (unsigned_abs f.over) f.under (sided false (180 * 10 ^ 20) pi_upper))
    (times (unsigned_abs f.over) f.under (sided false (180 * 10 ^ 20) pi_lower)) (balance (turned_with f d))
