-- How far tags are numbered.
use Rattle.std.specs.Prelude.{ℕ}

-- the number of the last tag of each sort, after which they begin at 1 again (this profile)
abbrev pub last_number : ℕ
last_number = 9999
