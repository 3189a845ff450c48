-- The written form of lengths and directions, in this profile: a minus below zero, no leading zeros but one before the point, exactly three
-- or six decimals.
use Rattle.std.specs.Prelude.{ℕ, ◌+◌, ◌/◌, ◌%◌, List, [], ◌∷◌, ◌++◌, ℤ, pos, negsuc, unsigned_abs, codes, decimal}
use Rattle.fixed_um.specs.Shapes.{Direction}
use Rattle.fixed_um.specs.declared.lengths.Point.{Point}

-- the minus of a number below zero, so there is none before zero
abbrev pub minus_sign : ℤ → List ℕ
minus_sign (pos n) = []
minus_sign (negsuc n) = codes "-"

-- the last digit of a number
abbrev pub last_digit : ℕ → ℕ
last_digit n = 48 + n % 10

-- three digits, and six
abbrev pub three_digits : ℕ → List ℕ
three_digits n = last_digit (n / 100) ∷ last_digit (n / 10) ∷ last_digit n ∷ []

abbrev pub six_digits : ℕ → List ℕ
six_digits n = three_digits (n / 1000) ++ three_digits n

-- a length in micrometres, written in millimetres with three decimals
unfoldable pub written : ℤ → List ℕ
written z = minus_sign z ++ (decimal (unsigned_abs z / 1000) ++ (codes "." ++ three_digits (unsigned_abs z)))

-- a component in millionths, written with six decimals
unfoldable pub written_component : ℤ → List ℕ
written_component z = minus_sign z ++ (decimal (unsigned_abs z / 1000000) ++ (codes "." ++ six_digits (unsigned_abs z)))

-- the three components of a direction, with a text between each two
abbrev pub written_direction : Direction → List ℕ → List ℕ
written_direction d between = written_component d.i ++ (between ++ (written_component d.j ++ (between ++ written_component d.k)))

-- a point as it is printed: its lengths along x, y and z, with a space between each two
abbrev pub printed_point : Point → List ℕ
printed_point p = written p.x ++ (codes " " ++ (written p.y ++ (codes " " ++ written p.z)))
