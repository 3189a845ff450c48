-- The limits of lengths, directions and names, in this profile.
use Rattle.std.specs.Prelude.{ℕ}

-- a length on the wire is within 4,000 metres: 4,000,000,000 micrometres
abbrev pub wire_limit : ℕ
wire_limit = 4000000000

-- a length in a program, in the setup and on the machine is within 1,000 metres: 1,000,000,000 micrometres
abbrev pub volume_limit : ℕ
volume_limit = 1000000000

-- a component of a direction is within 1,000: 1,000,000,000 millionths
abbrev pub component_limit : ℕ
component_limit = 1000000000
