-- Texts of HTML (WHATWG HTML), which are written into one page.
use Rattle.std.specs.Prelude.{ℕ, List, [], ◌∷◌, ◌++◌, codes}
use Rattle.drawings.specs.Texts.{markup, escaped}

-- a text between two pieces of markup
unfoldable pub between : List ℕ → List ℕ → List ℕ → List ℕ
between before text after = markup before ++ (escaped text ++ markup after)

-- a cell of a table
abbrev pub cell : List ℕ → List ℕ
cell field = between (codes "<td>") field (codes "</td>")

-- cells of a table, one for each field
abbrev pub cells : List (List ℕ) → List ℕ
cells [] = []
cells (field ∷ fields) = cell field ++ cells fields
