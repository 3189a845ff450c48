-- Bytes of a peer as people read them (this profile).
use Rattle.std.specs.Prelude.{ℕ, ◌+◌, ◌-◌, ◌/◌, ◌%◌, ◌&&◌, List, [], ◌∷◌, ◌++◌, nat_lt, nat_le, codes, if◌then◌else◌}

-- a hexadecimal digit
abbrev pub hex_digit : ℕ → ℕ
hex_digit n = if nat_lt n 10 then 48 + n else 65 + (n - 10)

-- a byte as it can be read: from 32 to 126 as it is, any other by its two hexadecimal digits
abbrev pub visible : ℕ → List ℕ
visible b = if nat_le 32 b && nat_le b 126 then b ∷ [] else codes "\\x" ++ (hex_digit (b / 16) ∷ hex_digit (b % 16) ∷ [])
