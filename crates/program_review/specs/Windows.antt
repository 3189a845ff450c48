-- From which byte on a line is shown (this profile).
use Rattle.std.specs.Prelude.{ℕ, ◌+◌, ◌-◌, ◌/◌, Bool, ◌&&◌, ◌||◌, min, nat_le, nat_lt, if◌then◌else◌}

-- the word at this place of this length is among the first 200 bytes
abbrev pub is_in_front : ℕ → ℕ → Bool
is_in_front at len = nat_lt at 200 && nat_le (at + len) 200

-- how many of 200 bytes are before a word of this length that is in their middle
abbrev pub before_middle : ℕ → ℕ
before_middle len = (200 - min len 200) / 2

-- the byte from which a line of n bytes is shown for the word of this place and length: the first if the line or the word is then shown, else
-- the one that puts the word in the middle of 200 bytes, and no later than the last 200 begin
abbrev pub shown_start : ℕ → ℕ → ℕ → ℕ
shown_start n at len = if nat_le n 200 || is_in_front at len then 0 else min (at - before_middle len) (n - 200)
