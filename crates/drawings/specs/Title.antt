-- What a drawing is called.
use Rattle.std.specs.Prelude.{ℕ, ◌==◌, ◌&&◌, List, [], ◌∷◌, ◌++◌, codes, length, if◌then◌else◌}
use Rattle.drawings.specs.Texts.{markup, escaped}

-- the part, the program, and when the part was measured; each may be empty
pub record TitleTexts : Type 0 where
  pub part : List ℕ
  pub program : List ℕ
  pub time : List ℕ

-- no title
abbrev pub untitled : TitleTexts
untitled = record { part = []; program = []; time = [] }

-- a text after what it is; an empty one is left out
abbrev pub titled : List ℕ → List ℕ → List ℕ
titled word [] = []
titled word (b ∷ text) = markup word ++ escaped (b ∷ text)

-- the texts that are there
unfoldable pub given_title : TitleTexts → List ℕ
given_title t = titled (codes " Part ") t.part ++ (titled (codes " Program ") t.program ++ titled (codes " ") t.time)

-- they, or what is shown if none is there
abbrev pub title_words : TitleTexts → List ℕ
title_words t =
    if length t.part == 0 && (length t.program == 0 && length t.time == 0) then markup (codes "Measured points and their deviations") else
    given_title t
