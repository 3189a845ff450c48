-- Label, word and parameters: cut at marks outside texts, folded, without blanks at both ends (ISO 22093). A comma is 44.
use Rattle.std.specs.Prelude.{ℕ, Bool, false, not, List, [], ◌∷◌, Option, Some, None, ◌&&◌, ◌==◌, if◌then◌else◌}
use Rattle.std.specs.Option.{option_map}
use Rattle.std.specs.List.{onto_first}
use Rattle.std.specs.Char.{to_ascii_uppercase}
use Rattle.dmis_text.specs.Texts.{turned, without_front_blanks, without_end_blanks}

-- a cut with one byte more in front
abbrev pub onto_front : ℕ → List ℕ × List ℕ → List ℕ × List ℕ
onto_front c p = (c ∷ p.0, p.1)

-- the bytes before and after the first mark outside texts
abbrev pub cut_at : ℕ → Bool → List ℕ → Option (List ℕ × List ℕ)
cut_at mark inside [] = None
cut_at mark inside (c ∷ cs) = if not inside && (c == mark) then Some ([], cs) else option_map (onto_front c)
    (cut_at mark (turned inside c) cs)

-- the pieces between the commas outside texts, at least one
abbrev pub pieces : Bool → List ℕ → List (List ℕ)
pieces inside [] = [] ∷ []
pieces inside (c ∷ cs) = if not inside && (c == 44) then [] ∷ pieces false cs else onto_first c (pieces (turned inside c) cs)

-- small letters as capitals outside texts, all else as it is
abbrev pub folded : Bool → List ℕ → List ℕ
folded inside [] = []
folded inside (c ∷ cs) = (if inside then c else to_ascii_uppercase c) ∷ folded (turned inside c) cs

-- a label, a word or a parameter as it is handed out
abbrev pub element_of : List ℕ → List ℕ
element_of bytes = folded false (without_end_blanks (without_front_blanks bytes))
