-- The stored frames of a setup that a program does not recall (this profile).
use Rattle.std.specs.Prelude.{ℕ, ◌+◌, Bool, List, [], ◌∷◌, ◌++◌, codes, Option, Some, None, if◌then◌else◌}
use Rattle.dmis_text.specs.declared.elements.Statement.{Statement}
use Rattle.fixed_um.specs.Names.{is_name_text, folded}
use Rattle.tool_rack.specs.Fields.{fields_of, is_dropped, is_word}
use Rattle.tool_rack.specs.Setups.{has_name}
use Rattle.dmis_program.specs.Keywords.{keyword_of}
use Rattle.dmis_program.specs.declared.sayings.StatementMeaning.{StatementMeaning}
use Rattle.dmis_program.specs.declared.sayings.StatementMeaning.TheVariants as said
use Rattle.program_review.specs.Remarks.{remark_on}
use Rattle.program_review.specs.UnderSetup.{meaning_with, is_end}
use Rattle.program_review.specs.declared.remarks.Remark.{Remark}
use Rattle.program_review.specs.declared.remarks.What.{What}
use Rattle.program_review.specs.declared.remarks.What.TheVariants as what

-- the name that a statement recalls that says this
abbrev pub name_recalled : Option StatementMeaning → List (List ℕ)
name_recalled (Some (said.Recalls name)) = name ∷ []
name_recalled _ = []

-- the names that the statements recall up to the first `ENDFIL`
abbrev pub names_recalled : List Statement → List (List ℕ)
names_recalled [] = []
names_recalled (s ∷ statements) = if is_end (keyword_of s.word) then [] else
    name_recalled (meaning_with (keyword_of s.word) s) ++ names_recalled statements

-- the name that a text writes
abbrev pub name_of : List ℕ → Option (List ℕ)
name_of text = if is_name_text text then Some (folded text) else None

-- the name of the frame that the fields of a line store; none if they store none
abbrev pub frame_in : List (List ℕ) → Option (List ℕ)
frame_in [] = None
frame_in (word ∷ []) = None
frame_in (word ∷ name ∷ values) = if is_word (codes "FRAME") word then name_of name else None

abbrev pub stored_on : List ℕ → Option (List ℕ)
stored_on line = if is_dropped line then None else frame_in (fields_of line)

-- what is remarked on the line of a frame whose name is not among these
abbrev pub unused_on : List (List ℕ) → ℕ → Option (List ℕ) → List Remark
unused_on names line None = []
unused_on names line (Some name) = if has_name names name then [] else record { what = what.Unused; line = line } ∷ []

-- those of the lines from the one after this number on
abbrev pub unused_from : List (List ℕ) → ℕ → List (List ℕ) → List Remark
unused_from names number [] = []
unused_from names number (line ∷ lines) = unused_on names (number + 1) (stored_on line) ++ unused_from names (number + 1) lines
