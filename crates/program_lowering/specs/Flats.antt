-- The statement of a flat program that a statement stands for, and its line (this profile: numbers with all their decimals, and the line of
-- the source in a comment).
use Rattle.std.specs.Prelude.{ℕ, List, [], ◌∷◌, ◌++◌, codes, decimal, length, map, nat_le, take, Option, Some, None, if◌then◌else◌}
use Rattle.std.specs.Char.{to_ascii_uppercase}
use Rattle.fixed_um.specs.Shapes.{Direction}
use Rattle.fixed_um.specs.Written.{written, written_component, written_direction}
use Rattle.fixed_um.specs.declared.lengths.Point.{Point}
use Rattle.dmis_program.specs.declared.keywords.Keyword.{Keyword}
use Rattle.dmis_program.specs.declared.keywords.Keyword.TheVariants as word
use Rattle.dmis_program.specs.declared.sayings.StatementMeaning.{StatementMeaning}
use Rattle.dmis_program.specs.declared.sayings.StatementMeaning.TheVariants as said

-- a word and its parameters
pub record Flat : Type 0 where
  pub word : List ℕ
  pub params : List (List ℕ)

abbrev pub flat : List ℕ → List (List ℕ) → Flat
flat name params = record { word = name; params = params }

-- a name in parentheses after its mark
abbrev pub within : List ℕ → List ℕ → List ℕ
within mark name = mark ++ (name ++ codes ")")

-- three lengths, and three components
abbrev pub place : Point → List (List ℕ)
place p = written p.x ∷ written p.y ∷ written p.z ∷ []

abbrev pub components : Option Direction → List (List ℕ)
components None = []
components (Some d) = written_component d.i ∷ written_component d.j ∷ written_component d.k ∷ []

-- the kind of a feature: its first 64 letters, as capitals. Nothing depends on it
abbrev pub kind_of : List (List ℕ) → List ℕ
kind_of [] = []
kind_of (kind ∷ rest) = map to_ascii_uppercase (take 64 kind)

-- what is written of the words that command nothing
abbrev pub flat_passed : Keyword → Option Flat
flat_passed word.Dmismn = Some (flat (codes "DMISMN") [])
flat_passed word.Units = Some (flat (codes "UNITS") (codes "MM" ∷ []))
flat_passed word.Mode = Some (flat (codes "MODE") (codes "PROG" ∷ []))
flat_passed _ = None

-- what is written of a statement with this keyword and these parameters that says this
abbrev pub flat_said : Keyword → List (List ℕ) → StatementMeaning → Option Flat
flat_said keyword params (said.Goes target) = Some (flat (codes "GOTO") (codes "CART" ∷ place target))
flat_said keyword params (said.Begins name count) =
    Some (flat (codes "MEAS") (kind_of params ∷ within (codes "F(") name ∷ decimal count ∷ []))
flat_said keyword params (said.Touches target direction) =
    Some (flat (codes "PTMEAS") (codes "CART" ∷ (place target ++ components direction)))
flat_said keyword params said.Ends = Some (flat (codes "ENDMES") [])
flat_said keyword params (said.Selects name) = Some (flat (codes "SNSLCT") (within (codes "S(") name ∷ []))
flat_said keyword params (said.Recalls name) = Some (flat (codes "RECALL") (within (codes "D(") name ∷ []))
flat_said keyword params said.Closes = Some (flat (codes "ENDFIL") [])
flat_said keyword params said.Passes = flat_passed keyword

-- parameters with a comma between each two
abbrev pub with_commas : List ℕ → List (List ℕ) → List ℕ
with_commas param [] = param
with_commas param (next ∷ params) = param ++ 44 ∷ with_commas next params

-- the text of a statement: a `/` is 47
abbrev pub after_word : List (List ℕ) → List ℕ
after_word [] = []
after_word (param ∷ params) = 47 ∷ with_commas param params

abbrev pub flat_text : Flat → List ℕ
flat_text f = f.word ++ after_word f.params

-- its line, with the line of the source, and without its end
abbrev pub flat_line : Flat → ℕ → List ℕ
flat_line f line = flat_text f ++ (codes " $$ line " ++ decimal line)

-- and with the pass over that line, from the second one on, if the line has room for it
abbrev pub if_short : List ℕ → List ℕ → List ℕ
if_short longer line = if nat_le (length longer) 4096 then longer else line

abbrev pub with_pass : List ℕ → ℕ → List ℕ
with_pass line pass = if nat_le pass 1 then line else if_short (line ++ (codes ", pass " ++ decimal pass)) line

-- what begins a note: the line of the source
unfoldable pub note_line : ℕ → List ℕ
note_line line = codes "dme: line " ++ (decimal line ++ codes ": ")

-- what the code appends, part by part: no public clause cites it
abbrev pub text_for : Option Flat → List ℕ
text_for None = []
text_for (Some f) = flat_text f

abbrev pub place_text : Point → List ℕ
place_text p = written p.x ++ 44 ∷ (written p.y ++ 44 ∷ written p.z)

abbrev pub components_text : Option Direction → List ℕ
components_text None = []
components_text (Some d) = 44 ∷ written_direction d (codes ",")
