-- The lines of a text, and the fields of a line (this profile). A LF is 10, a space is 32.
use Rattle.std.specs.Prelude.{ℕ, ◌==◌, List, [], ◌∷◌, ◌++◌, drop}
use Rattle.std.specs.List.{slice_split, join_with_byte}

-- lines as a text: a LF follows each
abbrev pub text_of : List (List ℕ) → List ℕ
text_of [] = []
text_of (line ∷ lines) = line ++ 10 ∷ text_of lines

-- all of a list but its last element
abbrev pub but_last : List (List ℕ) → List (List ℕ)
but_last [] = []
but_last (part ∷ []) = []
but_last (part ∷ next ∷ parts) = part ∷ but_last (next ∷ parts)

-- the lines of a text that have their LF; what follows the last LF is not a line
unfoldable pub whole_lines : List ℕ → List (List ℕ)
whole_lines bytes = but_last (slice_split (λ b. b == 10) bytes)

-- a line of these fields, with one space between each two
abbrev pub line_of : List (List ℕ) → List ℕ
line_of fields = join_with_byte 32 fields

-- what is between the spaces of a line
unfoldable pub fields_of : List ℕ → List (List ℕ)
fields_of line = slice_split (λ b. b == 32) line

-- the fields after the first space
abbrev pub fields_behind : List ℕ → List (List ℕ)
fields_behind bytes = drop 1 (fields_of bytes)

-- fields with a space before each, as they follow the first
abbrev pub spaced : List (List ℕ) → List ℕ
spaced [] = []
spaced (field ∷ fields) = 32 ∷ (field ++ spaced fields)
