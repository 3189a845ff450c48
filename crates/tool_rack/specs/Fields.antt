-- The fields of a line of a setup, and the lines that say nothing (this profile). A space is 32, `#` is 35.
use Rattle.std.specs.Prelude.{ℕ, ◌-◌, Bool, true, not, ◌||◌, ◌==◌, List, [], ◌∷◌, length, slice_index, map}
use Rattle.std.specs.List.{filter, slice_split}
use Rattle.std.specs.Char.{to_ascii_lowercase}
use Rattle.std.specs.Str.{bytes_eq}

-- what is between spaces; between adjacent spaces there is nothing
unfoldable pub fields_of : List ℕ → List (List ℕ)
fields_of line = filter (λ field. not (length field == 0)) (slice_split (λ b. b == 32) line)

-- a line that says nothing: it is empty, or begins with `#`
abbrev pub is_dropped : List ℕ → Bool
is_dropped [] = true
is_dropped (first ∷ rest) = first == 35

-- a space at the start of a line or at its end
abbrev pub has_outer_space : List ℕ → Bool
has_outer_space line = (slice_index line 0 == 32) || (slice_index line (length line - 1) == 32)

-- a field is this word, its letters in any case
abbrev pub is_word : List ℕ → List ℕ → Bool
is_word name field = bytes_eq (map to_ascii_lowercase field) (map to_ascii_lowercase name)
