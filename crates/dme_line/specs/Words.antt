-- Words and bytes of lines.
use Rattle.std.specs.Prelude.{◌≡◌, ℕ, ◌≤◌, Bool, true, not, ◌&&◌, ◌==◌, List, [], ◌∷◌, ◌++◌, length, map}
use Rattle.std.specs.List.{list_all}
use Rattle.std.specs.Char.{to_ascii_lowercase}
use Rattle.std.specs.Str.{bytes_eq}

-- a word is a name that the interface knows, its letters in any case (this profile)
abbrev pub is_word : List ℕ → List ℕ → Bool
is_word name word = bytes_eq (map to_ascii_lowercase word) (map to_ascii_lowercase name)

-- a byte that a line may hold: neither CR (13) nor LF (10), which end it
abbrev pub is_content : ℕ → Bool
is_content c = not (c == 13) && not (c == 10)

-- the end of a line: CR LF
abbrev pub line_end : List ℕ
line_end = 13 ∷ 10 ∷ []

-- a text in quotes
abbrev pub quoted : List ℕ → List ℕ
quoted text = 34 ∷ (text ++ 34 ∷ [])

-- a text that a line can hold: at most that many bytes, none of them CR or LF
pub record IsWireText (limit : ℕ) (text : List ℕ) : Type 0 where
  pub free : list_all is_content text ≡ true
  pub short : length text ≤ limit
