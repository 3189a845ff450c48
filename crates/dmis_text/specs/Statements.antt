-- The statement that a joined text says (ISO 22093). A `/` is 47, a `=` is 61.
use Rattle.std.specs.Prelude.{ℕ, Bool, false, List, [], ◌∷◌, map, Option, Some, None}
use Rattle.dmis_text.specs.Texts.{inside_after}
use Rattle.dmis_text.specs.Elements.{cut_at, pieces, element_of}
use Rattle.dmis_text.specs.declared.elements.Statement.{Statement}

-- the head before the `/`: with a label where it was cut at its first `=`
abbrev pub headed : ℕ → List (List ℕ) → List ℕ → Option (List ℕ × List ℕ) → Statement
headed line params head None = record { line = line; label = None; word = element_of head; params = params }
headed line params head (Some p) = record { line = line; label = Some (element_of p.0); word = element_of p.1; params = params }

-- the whole, cut at its first `/` into head and parameters: without one it is the word
abbrev pub parted : ℕ → List ℕ → Option (List ℕ × List ℕ) → Statement
parted line text None = record { line = line; label = None; word = element_of text; params = [] }
parted line text (Some p) = headed line (map element_of (pieces false p.1)) p.0 (cut_at 61 false p.0)

-- the statement of a joined text that begins on this line
abbrev pub statement_of : ℕ → List ℕ → Statement
statement_of line text = parted line text (cut_at 47 false text)

-- the last of the parameters, or the word if there is none
abbrev pub last_element : List ℕ → List (List ℕ) → List ℕ
last_element word [] = word
last_element word (param ∷ params) = last_element param params

-- a text that was opened in the statement was not closed: it runs to the end of the last element
abbrev pub has_open_text : Statement → Bool
has_open_text s = inside_after false (last_element s.word s.params)
