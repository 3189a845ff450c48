-- The names that statements declare or assign, and the moves that are refused for one (ISO 22093; this profile computes nothing).
use Rattle.std.specs.Prelude.{ℕ, Bool, true, false, ◌&&◌, List, [], ◌∷◌, codes, find, slice_get, Option, Some, None}
use Rattle.std.specs.Prelude.{if◌then◌else◌}
use Rattle.std.specs.List.{flat_map}
use Rattle.dmis_text.specs.declared.elements.Statement.{Statement}
use Rattle.tool_rack.specs.Setups.{has_name}
use Rattle.dmis_program.specs.Keywords.{keyword_of, is_among}
use Rattle.dmis_program.specs.Parameters.{name_of, without_cart}
use Rattle.dmis_program.specs.declared.faults.Refusal.{Refusal}
use Rattle.dmis_program.specs.declared.faults.Refusal.TheVariants as refusal
use Rattle.dmis_program.specs.declared.keywords.Keyword.{Keyword}
use Rattle.dmis_program.specs.declared.keywords.Keyword.TheVariants as word
use Rattle.program_review.specs.Lengths.{is_no_length}

-- words with names among their parameters: of variables, of a loop's variable, of a macro's parameters, of what is read
abbrev pub declaring : List (List ℕ)
declaring = codes "DECL" ∷ (codes "DO" ∷ (codes "MACRO" ∷ (codes "READ" ∷ [])))

-- words whose label is the name that they give a value
abbrev pub assigning : List (List ℕ)
assigning = codes "ASSIGN" ∷ (codes "OBTAIN" ∷ (codes "PROMPT" ∷ (codes "VALUE" ∷ [])))

-- a value that may be missing, as a list
abbrev pub as_list : Option (List ℕ) → List (List ℕ)
as_list None = []
as_list (Some text) = text ∷ []

-- those of some texts that are names
abbrev pub names_in : List (List ℕ) → List (List ℕ)
names_in texts = flat_map (λ text. as_list (name_of text)) texts

-- the names that a statement declares or assigns
abbrev pub names_by : Statement → List (List ℕ)
names_by s = if is_among s.word declaring then names_in s.params else if is_among s.word assigning then names_in (as_list s.label) else []

-- the argument for which a `GOTO` is refused: the first, which names no coordinates, or the leftmost that is no length
abbrev pub refused_argument : Refusal → List (List ℕ) → Option (List ℕ)
refused_argument refusal.Unsupported params = slice_get params 0
refused_argument (refusal.BadNumeral cause) params = find is_no_length (without_cart params)
refused_argument _ params = None

abbrev pub is_named : List (List ℕ) → Option (List ℕ) → Bool
is_named names None = false
is_named names (Some text) = has_name names text

abbrev pub is_move : Keyword → Bool
is_move word.Goto = true
is_move _ = false

-- a move whose refused argument is one of these names
abbrev pub is_computed_move : List (List ℕ) → Refusal → Statement → Bool
is_computed_move names refusal s = is_move (keyword_of s.word) && is_named names (refused_argument refusal s.params)
