-- Roots (`SQRT` of ISO 22093) as decimals of twelve places.
use Rattle.std.specs.Prelude.{ℕ, zero, suc, ◌+◌, ◌*◌, ◌/◌, ◌^◌, ◌<◌, ◌≤◌, ◌≡◌, false, nat_le, pos, unsigned_abs, int_lt, Result, Err, if◌then◌else◌}
use Rattle.program_flow.specs.Numbers.{Fraction, reduced}
use Rattle.program_flow.specs.declared.faults.ValueFault.{ValueFault}
use Rattle.program_flow.specs.declared.faults.ValueFault.TheVariants.{PastBound, NegativeRoot}

-- a number, or one more if its square is not past n
abbrev pub one_more : ℕ → ℕ → ℕ
one_more n r = if nat_le ((r + 1) * (r + 1)) n then r + 1 else r

-- the whole part of the root of a number below 4 ^ steps: twice that of a quarter of it, or one more
unfoldable pub root_within : ℕ → ℕ → ℕ
root_within zero n = 0
root_within (suc steps) n = one_more n (2 * root_within steps (n / 4))

abbrev pub whole_root : ℕ → ℕ
whole_root n = root_within 64 n

-- the root of a number from zero to 10 ^ 12, in whole units of 10 ^ -12
unfoldable pub root : Fraction → Result Fraction ValueFault
root f = if int_lt f.over (pos 0) then Err NegativeRoot else
    (if nat_le (unsigned_abs f.over) (f.under * 10 ^ 12) then reduced (pos (whole_root (unsigned_abs f.over * 10 ^ 24 / f.under))) (10 ^ 12)
    else Err PastBound)

-- d is not below zero, not past the root of f, and less than 10 ^ -12 below it
pub record IsRoot (f d : Fraction) : Type 0 where
  pub from_zero : int_lt d.over (pos 0) ≡ false
  pub reached : unsigned_abs d.over * unsigned_abs d.over * f.under ≤ unsigned_abs f.over * (d.under * d.under)
  pub short : unsigned_abs f.over * (d.under * 10 ^ 12 * (d.under * 10 ^ 12))
      < (unsigned_abs d.over * 10 ^ 12 + d.under) * (unsigned_abs d.over * 10 ^ 12 + d.under) * f.under
