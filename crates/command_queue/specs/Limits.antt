-- How much a queue holds.
use Rattle.std.specs.Prelude.{ℕ}

-- how many commands may wait at a server (this profile)
abbrev pub places : ℕ
places = 64
