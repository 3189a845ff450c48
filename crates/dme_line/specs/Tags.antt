-- Tags and their five bytes (I++ DME Interface version 1).
use Rattle.std.specs.Prelude.{ℕ, ◌≤◌, ◌/◌, Bool, true, false, List, [], ◌∷◌, Vec}
use Rattle.fixed_um.specs.Calls.{HasRoom}
use Rattle.fixed_um.specs.Written.{last_digit}
use Rattle.dme_line.specs.declared.tags.Tag.{Tag}
use Rattle.dme_line.specs.declared.tags.Tag.TheVariants.{Std, Event}

-- four decimal digits, and five
abbrev pub four_digits : ℕ → List ℕ
four_digits n = last_digit (n / 1000) ∷ last_digit (n / 100) ∷ last_digit (n / 10) ∷ last_digit n ∷ []

abbrev pub five_digits : ℕ → List ℕ
five_digits n = last_digit (n / 10000) ∷ four_digits n

-- a tag as written in a line: five digits, or E and four digits
abbrev pub written_tag : Tag → List ℕ
written_tag (Std n) = five_digits n
written_tag (Event n) = 69 ∷ four_digits n

-- a tag whose number has room in its digits
abbrev pub IsTag : Tag → Type 0
IsTag (Std n) = n ≤ 99999
IsTag (Event n) = n ≤ 9999

-- a line can be written under a tag: its number has room in its digits, and the line has room for that many bytes
abbrev pub HasRoomUnder : {X Z : Type 0} → Tag → Vec X Z → ℕ → Type 0
HasRoomUnder tag out count = IsTag tag × HasRoom out count

-- a tag that a command can have: not number 0 (this profile)
abbrev pub IsNumbered : Tag → Type 0
IsNumbered (Std n) = (1 ≤ n) × (n ≤ 99999)
IsNumbered (Event n) = (1 ≤ n) × (n ≤ 9999)

-- whether a tag is one of an event command
abbrev pub is_event_tag : Tag → Bool
is_event_tag (Std n) = false
is_event_tag (Event n) = true
