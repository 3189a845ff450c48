-- Sines, cosines and tangents of radians, and degrees in radians and back (`SIN`, `COS`, `TAN`, `DTOR`, `RTOD` of ISO 22093), as decimals of
-- twelve places.
-- A value has to be one number, so this says which, by what is computed; what it means is in `Nearness`.
use Rattle.std.specs.Prelude.{ℕ, zero, suc, ◌+◌, ◌*◌, ◌/◌, ◌^◌, Bool, not, nat_le, nat_lt, pos, unsigned_abs, int_lt, Result, Err, if◌then◌else◌}
use Rattle.std.specs.Int.{abs_diff}
use Rattle.fixed_um.specs.Computed.{rounded}
use Rattle.program_flow.specs.Numbers.{Fraction, reduced, signed}
use Rattle.program_flow.specs.declared.faults.ValueFault.{ValueFault}
use Rattle.program_flow.specs.declared.faults.ValueFault.TheVariants.{PastBound}

-- n / m units of 10 ^ -12, rounded to whole ones
abbrev pub decimal_of : Bool → ℕ → ℕ → Result Fraction ValueFault
decimal_of negative n m = reduced (signed negative (rounded n m)) (10 ^ 12)

-- a term that is divided by c, times (p / q) ^ 2
abbrev pub term : ℕ → ℕ → ℕ → ℕ → ℕ
term p q c n = p * (p * n / q) / (q * c)

-- units of 10 ^ -17 in one
abbrev pub units : ℕ
units = 10 ^ 17

abbrev pub before : ℕ → ℕ → ℕ → ℕ × ℕ → ℕ × ℕ
before p q c h = (units + term p q c h.1, term p q c h.0)

-- a partial sum in units of 10 ^ -17, each term without its rest: what is added, and what is subtracted
unfoldable pub series : ℕ → ℕ → ℕ → ℕ → ℕ × ℕ
series p q zero k = (units, 0)
series p q (suc n) k = before p q (k * (k + 1)) (series p q n (k + 2))

abbrev pub distance : ℕ × ℕ → ℕ
distance h = abs_diff h.0 h.1

abbrev pub is_negative : ℕ × ℕ → Bool
is_negative h = nat_lt h.0 h.1

-- a value for a number up to a limit
abbrev pub within_limit : ℕ → Fraction → Result Fraction ValueFault → Result Fraction ValueFault
within_limit limit f value = if nat_le (unsigned_abs f.over) (f.under * limit) then value else Err PastBound

-- up to 7 radians: 20 terms more than the first
abbrev pub cosine_from : ℕ × ℕ → Result Fraction ValueFault
cosine_from h = decimal_of (is_negative h) (distance h) (10 ^ 5)

unfoldable pub cosine : Fraction → Result Fraction ValueFault
cosine f = within_limit 7 f (cosine_from (series (unsigned_abs f.over) f.under 20 1))

abbrev pub sine_from : Fraction → ℕ × ℕ → Result Fraction ValueFault
sine_from f h = decimal_of (if int_lt f.over (pos 0) then not (is_negative h) else is_negative h) (distance h * unsigned_abs f.over) (f.under * 10 ^ 5)

unfoldable pub sine : Fraction → Result Fraction ValueFault
sine f = within_limit 7 f (sine_from f (series (unsigned_abs f.over) f.under 20 2))

-- a quotient in units of 10 ^ -12, if one more than it is at most 50 times the divisor, which is in units of 10 ^ -17
abbrev pub quotient_by : Bool → ℕ → ℕ → Result Fraction ValueFault
quotient_by negative n m = if nat_le ((rounded n m + 10 ^ 12) * 2000) m then decimal_of negative n m else Err PastBound

abbrev pub differ : Bool → Bool → Bool
differ a b = if a then not b else b

abbrev pub tangent_from : Fraction → ℕ × ℕ → ℕ × ℕ → Result Fraction ValueFault
tangent_from f s c = quotient_by (differ (int_lt f.over (pos 0)) (differ (is_negative s) (is_negative c)))
    (distance s * unsigned_abs f.over / f.under * 10 ^ 12) (distance c)

unfoldable pub tangent : Fraction → Result Fraction ValueFault
tangent f = within_limit 7 f (tangent_from f (series (unsigned_abs f.over) f.under 20 2) (series (unsigned_abs f.over) f.under 20 1))

-- up to 10 ^ 6: pi / 180 in units of 10 ^ -21, and 180 / pi in units of 10 ^ -18
unfoldable pub in_radians : Fraction → Result Fraction ValueFault
in_radians f = within_limit 1000000 f (decimal_of (int_lt f.over (pos 0)) (unsigned_abs f.over * 17453292519943295769) (f.under * 10 ^ 9))

unfoldable pub in_degrees : Fraction → Result Fraction ValueFault
in_degrees f = within_limit 1000000 f (decimal_of (int_lt f.over (pos 0)) (unsigned_abs f.over * 57295779513082320877) (f.under * 10 ^ 6))
