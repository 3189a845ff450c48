-- Cuts, pieces and statements as relations: what the laws of this crate tie its functions to (ISO 22093).
use Rattle.std.specs.Prelude.{◌≡◌, ◌≢◌, ℕ, ◌<◌, false, List, [], ◌∷◌, ◌++◌, length, take, slice_index, map, Some, None}
use Rattle.dmis_text.specs.Texts.{inside_after}
use Rattle.dmis_text.specs.Elements.{element_of}
use Rattle.dmis_text.specs.declared.elements.Statement.{Statement}

-- the mark is at no place outside texts
abbrev pub NoneOutside : ℕ → List ℕ → Type 0
NoneOutside mark bytes = (k : ℕ) → k < length bytes → inside_after false (take k bytes) ≡ false → slice_index bytes k ≢ mark

-- the text is cut at the first mark outside texts
pub record IsCut (mark : ℕ) (text front behind : List ℕ) : Type 0 where
  pub parts : text ≡ front ++ mark ∷ behind
  pub closed : inside_after false front ≡ false
  pub first : NoneOutside mark front

-- the text is these pieces, with commas between them that stand outside texts
abbrev pub IsSplit : List ℕ → List (List ℕ) → Type 0
IsSplit text [] = ⊥
IsSplit text (piece ∷ []) = (text ≡ piece) × NoneOutside 44 piece
IsSplit text (piece ∷ next ∷ pieces) = (behind : List ℕ) × IsCut 44 text piece behind × IsSplit behind (next ∷ pieces)

-- a text says a statement: a word, a word with parameters after a `/`, or a label before its `=` too
pub data Says (line : ℕ) (text : List ℕ) : Statement → Type 0 where
  word_alone : NoneOutside 47 text → Says line text (record { line = line; label = None; word = element_of text; params = [] })
  with_params : (word behind : List ℕ) (params : List (List ℕ)) → IsCut 47 text word behind → NoneOutside 61 word → IsSplit behind params
      → Says line text (record { line = line; label = None; word = element_of word; params = map element_of params })
  with_label : (head behind label word : List ℕ) (params : List (List ℕ)) → IsCut 47 text head behind → IsCut 61 head label word
      → IsSplit behind params
      → Says line text (record { line = line; label = Some (element_of label); word = element_of word; params = map element_of params })
