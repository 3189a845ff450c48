-- The lines of a text, and how one is shown (this profile).
use Rattle.std.specs.Prelude.{ℕ, zero, suc, ◌-◌, List, [], ◌∷◌, ◌++◌, length, take, drop, codes, nat_le, nat_lt, ◌==◌, min, if◌then◌else◌}
use Rattle.std.specs.List.{flat_map}
use Rattle.std.specs.Str.Lines.{lines}
use Rattle.session_telling.specs.Visible.{visible}

-- the lines of a text from number n on, counted from 1; from the last one on if it has fewer
abbrev pub lines_from : ℕ → List ℕ → List (List ℕ)
lines_from n bytes = drop (min (n - 1) (length (lines bytes) - 1)) (lines bytes)

-- what follows n line feeds; LF is 10
abbrev pub after_feeds : ℕ → List ℕ → List ℕ
after_feeds zero bytes = bytes
after_feeds (suc n) [] = []
after_feeds (suc n) (c ∷ cs) = if c == 10 then after_feeds n cs else after_feeds (suc n) cs

-- the bytes of a text from line n on; from the last one on if it has fewer
abbrev pub bytes_from : ℕ → List ℕ → List ℕ
bytes_from n bytes = after_feeds (min (n - 1) (length (lines bytes) - 1)) bytes

-- the first of some lines; empty if there is none
abbrev pub first_of : List (List ℕ) → List ℕ
first_of [] = []
first_of (line ∷ more) = line

-- line n of a text; its last one if it has fewer
abbrev pub line_of : ℕ → List ℕ → List ℕ
line_of n bytes = first_of (lines_from n bytes)

-- a byte of a line: a tab as it is
abbrev pub visible_in_line : ℕ → List ℕ
visible_in_line b = if b == 9 then b ∷ [] else visible b

-- the beginning of a line, at most 200 bytes of it
abbrev pub shown_front : List ℕ → List ℕ
shown_front bytes = if nat_le (length bytes) 200 then flat_map visible_in_line bytes else flat_map visible_in_line (take 200 bytes)
    ++ codes " .."

-- a line from this byte on, which is the first if it has at most 200
abbrev pub shown_from : ℕ → List ℕ → List ℕ
shown_from start line = (if nat_lt 0 start then codes ".. " else []) ++ shown_front (drop start line)
