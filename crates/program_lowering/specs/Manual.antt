-- Manual blocks (ISO 22093, MODE): a `MODE/MAN` and what follows it, up to the next `MODE` that is not manual. There the operator measures.
-- What measures and moves can be left out. What may hold below is not (this profile): selections, units, definitions, texts for the operator.
use Rattle.std.specs.Prelude.{ℕ, Bool, true, false, not, ◌&&◌, List, [], ◌∷◌, codes, is_none, if◌then◌else◌}
use Rattle.std.specs.Str.{bytes_eq}
use Rattle.dmis_text.specs.Statements.{has_open_text}
use Rattle.dmis_text.specs.declared.elements.Statement.{Statement}
use Rattle.dmis_program.specs.Keywords.{keyword_of, is_among}
use Rattle.dmis_program.specs.declared.keywords.Keyword.{Keyword}
use Rattle.dmis_program.specs.declared.keywords.Keyword.TheVariants as word

-- `MODE/MAN`: with other words besides, the machine may measure by itself
abbrev pub is_manual : List (List ℕ) → Bool
is_manual (only ∷ []) = bytes_eq only (codes "MAN")
is_manual _ = false

abbrev pub is_mode : Keyword → Bool
is_mode word.Mode = true
is_mode _ = false

-- whether the operator measures: the nearest `MODE`, from the first of these statements up, is manual
abbrev pub manual_after : Bool → Statement → Bool
manual_after manual s = if is_mode (keyword_of s.word) then is_manual s.params else manual

abbrev pub in_manual : List Statement → Bool
in_manual [] = false
in_manual (s ∷ above) = manual_after (in_manual above) s

-- the words that measure or move, of those that no flat program has
abbrev pub manual_words : List (List ℕ)
manual_words = codes "GOHOME" ∷ codes "GOTARG" ∷ codes "ENDGO" ∷ codes "FROM" ∷ codes "PAMEAS" ∷ codes "PATH" ∷ codes "RMEAS"
    ∷ codes "SCAN" ∷ []

-- and all of them
abbrev pub measures : Keyword → List ℕ → Bool
measures word.Mode name = true
measures word.Goto name = true
measures word.Meas name = true
measures word.Ptmeas name = true
measures word.Endmes name = true
measures word.Unknown name = is_among name manual_words
measures _ name = false

-- whether a statement is left out where the operator measures or not: one with a label, or whose text is not closed, is refused instead
abbrev pub is_skipped : Bool → Statement → Bool
is_skipped manual s = manual && (measures (keyword_of s.word) s.word && (is_none s.label && not (has_open_text s)))
