-- What the parameters of a statement begin with, and texts for the operator (ISO 22093).
use Rattle.std.specs.Prelude.{ℕ, Bool, false, ◌&&◌, ◌||◌, List, [], ◌∷◌, codes, if◌then◌else◌}
use Rattle.std.specs.Str.{bytes_eq}
use Rattle.dmis_text.specs.declared.elements.Statement.{Statement}
use Rattle.dmis_program.specs.Sayings.{is_badly_formed}
use Rattle.dmis_program.specs.declared.keywords.Keyword.TheVariants as word

-- the first parameter is this word
abbrev pub begins_with : List ℕ → List (List ℕ) → Bool
begins_with text [] = false
begins_with text (first ∷ rest) = bytes_eq first text

-- a text for the operator is `TEXT/OPER` or `TEXT/MAN`, unless it is refused for its form
abbrev pub is_operator_text : Statement → Bool
is_operator_text s = if is_badly_formed word.Passed s then false else
    bytes_eq s.word (codes "TEXT") && (begins_with (codes "OPER") s.params || begins_with (codes "MAN") s.params)
