-- What a line is, and the bytes of lines one after another.
use Rattle.std.specs.Prelude.{◌≡◌, ℕ, ◌≤◌, Bool, true, not, ◌&&◌, ◌==◌, List, [], ◌∷◌, ◌++◌, length, ⊤}
use Rattle.std.specs.List.{list_all}

-- a byte that a line may hold: neither CR (13) nor LF (10), since these end it (I++ DME Interface version 1)
abbrev pub is_content : ℕ → Bool
is_content c = not (c == 13) && not (c == 10)

-- a line without its end: free of CR and LF, and of at most 65,536 bytes (this profile)
pub record IsLine (line : List ℕ) : Type 0 where
  pub free : list_all is_content line ≡ true
  pub short : length line ≤ 65536

-- each of these is a line
abbrev pub AreLines : List (List ℕ) → Type 0
AreLines [] = ⊤
AreLines (line ∷ lines) = IsLine line × AreLines lines

-- the bytes of lines: each line, then CR LF, all joined (I++ DME Interface version 1)
abbrev pub line_bytes : List (List ℕ) → List ℕ
line_bytes [] = []
line_bytes (line ∷ lines) = line ++ 13 ∷ 10 ∷ line_bytes lines
