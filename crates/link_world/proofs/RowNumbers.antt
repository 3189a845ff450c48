-- The numbers of a report's rows.
use Rattle.std.proofs.Common.{◌≤◌, ◌<◌, ◌^◌, ℕ, length, decimal, arith}
use Rattle.std.proofs.lemmas.Fmt.{length-decimal-le}

-- a number of 64 bits has at most twenty digits
pub word-short : (n : ℕ) → n < 2 ^ 64 → length (decimal n) ≤ 20
word-short n small = length-decimal-le 20 n (omega arith) (omega (arith, small)) small

pub ruleset short = (word-short)
