-- The macros of a text, and what their parameters stand for (ISO 22093, MACRO and ENDMAC). An apostrophe is 39.
use Rattle.std.specs.Prelude.{ℕ, Bool, true, false, not, ◌&&◌, ◌==◌, List, [], ◌∷◌, ◌++◌, map, codes, bytes_eq}
use Rattle.std.specs.Prelude.{◌+◌, drop, take, is_none, is_some, Option, Some, None, if◌then◌else◌}
use Rattle.std.specs.Option.{option_map}
use Rattle.dmis_text.specs.Reading.{text_reading}
use Rattle.dmis_text.specs.declared.elements.Statement.{Statement}
use Rattle.dmis_text.specs.declared.reading.TextFault.{TextFault}
use Rattle.std.specs.List.{list_any, position}
use Rattle.program_flow.specs.Parts.{trimmed}
use Rattle.program_flow.specs.Values.{is_name_byte}
use Rattle.program_flow.specs.Blocks.{is_label}

-- ---- parameters

-- a parameter, and the text of its argument
pub record Pair : Type 0 where
  pub parameter : List ℕ
  pub argument : List ℕ

abbrev pub pairs_of : List (List ℕ) → List (List ℕ) → List Pair
pairs_of [] arguments = []
pairs_of (p ∷ ps) [] = []
pairs_of (p ∷ ps) (a ∷ others) = record { parameter = p; argument = a } ∷ pairs_of ps others

-- what an identifier stands for: itself, if it is no parameter
abbrev pub meaning_of : List Pair → List ℕ → List ℕ
meaning_of [] name = name
meaning_of (p ∷ ps) name = if bytes_eq p.parameter name then p.argument else meaning_of ps name

-- a text with each identifier that is a parameter replaced, outside texts in apostrophes: after the start of an identifier
unfoldable pub replaced_after : List Pair → Bool → List ℕ → List ℕ → List ℕ
replaced_after pairs quoted name [] = meaning_of pairs name
replaced_after pairs quoted name (c ∷ cs) = if not quoted && is_name_byte c then replaced_after pairs quoted (name ++ (c ∷ [])) cs
    else meaning_of pairs name ++ (c ∷ replaced_after pairs (if c == 39 then not quoted else quoted) [] cs)

abbrev pub replaced : List Pair → List ℕ → List ℕ
replaced pairs text = replaced_after pairs false [] text

abbrev pub replaced_word : List Pair → List ℕ → List ℕ
replaced_word pairs word = if is_label word then replaced pairs word else word

-- in labels and parameters; a label alone on its line is the word
abbrev pub replaced_statement : List Pair → Statement → Statement
replaced_statement pairs s = record {
  line = s.line;
  label = option_map (replaced pairs) s.label;
  word = replaced_word pairs s.word;
  params = map (replaced pairs) s.params;
}

-- as a text: the label, the word and the parameters
abbrev pub label_text : Option (List ℕ) → List ℕ
label_text None = []
label_text (Some label) = label ++ codes "="

abbrev pub comma_before : List (List ℕ) → List ℕ
comma_before [] = []
comma_before (param ∷ params) = codes "," ++ (param ++ comma_before params)

abbrev pub params_text : List (List ℕ) → List ℕ
params_text [] = []
params_text (param ∷ params) = codes "/" ++ (param ++ comma_before params)

abbrev pub statement_text : Statement → List ℕ
statement_text s = label_text s.label ++ (s.word ++ params_text s.params)

-- the statement that a text says, on a line: one alone
abbrev pub only_statement : ℕ → List Statement → Option TextFault → Option Statement
only_statement line (s ∷ []) None = Some (record s { line = line })
only_statement line _ _ = None

unfoldable pub said_by : ℕ → List ℕ → Option Statement
said_by line text = only_statement line (text_reading text).statements (text_reading text).fault

-- a statement with arguments in the places of parameters: that which its text says then
abbrev pub with_arguments : List Pair → Statement → Option Statement
with_arguments pairs s = said_by s.line (statement_text (replaced_statement pairs s))

abbrev pub both_or_none : Option Statement → Option (List Statement) → Option (List Statement)
both_or_none None below = None
both_or_none (Some s) None = None
both_or_none (Some s) (Some below) = Some (s ∷ below)

-- all of them; none, if one says no statement
abbrev pub all_with_arguments : List Pair → List Statement → Option (List Statement)
all_with_arguments pairs [] = Some []
all_with_arguments pairs (s ∷ below) = both_or_none (with_arguments pairs s) (all_with_arguments pairs below)

-- ---- macros

-- the label of a macro is `M(NAME)`; an `M` is 77
abbrev pub is_macro_name : List ℕ → Bool
is_macro_name [] = false
is_macro_name (c ∷ cs) = (c == 77) && is_label cs

abbrev pub name_if : Bool → List ℕ → Option (List ℕ)
name_if begins name = if begins && is_macro_name name then Some name else None

-- a statement without parameters is not cut at its `=`, which is 61, by the reading of texts
abbrev pub name_before : List ℕ → Option ℕ → Option (List ℕ)
name_before word None = None
name_before word (Some i) = name_if (bytes_eq (trimmed (drop (i + 1) word)) (codes "MACRO")) (trimmed (take i word))

abbrev pub name_of : Option (List ℕ) → List ℕ → Bool → Option (List ℕ)
name_of (Some label) word bare = name_if (bytes_eq word (codes "MACRO")) label
name_of None word true = name_before word (position (λ b. b == 61) word)
name_of None word false = None

abbrev pub without_parameters : List (List ℕ) → Bool
without_parameters [] = true
without_parameters (param ∷ params) = false

-- the label of the macro that begins at a statement
abbrev pub macro_name : Statement → Option (List ℕ)
macro_name s = name_of s.label s.word (without_parameters s.params)

abbrev pub begins_macro : Statement → Bool
begins_macro s = is_some (macro_name s)

abbrev pub ends_macro : Statement → Bool
ends_macro s = is_none s.label && (bytes_eq s.word (codes "ENDMAC") && without_parameters s.params)

-- whether a macro that began above these statements ends there, and its statements
abbrev pub has_end : List Statement → Bool
has_end below = list_any ends_macro below

abbrev pub body_of : List Statement → List Statement
body_of [] = []
body_of (s ∷ below) = if ends_macro s then [] else s ∷ body_of below

-- the statements outside macros, after one within a macro or outside
unfoldable pub outside_after : Bool → List Statement → List Statement
outside_after within [] = []
outside_after true (s ∷ below) = outside_after (not (ends_macro s)) below
outside_after false (s ∷ below) = if begins_macro s && has_end below then outside_after true below else s ∷ outside_after false below

abbrev pub outside : List Statement → List Statement
outside text = outside_after false text

pub record Macro : Type 0 where
  pub params : List (List ℕ)
  pub body : List Statement

abbrev pub has_label : Option (List ℕ) → List ℕ → Bool
has_label None name = false
has_label (Some label) name = bytes_eq label name

-- the first macro of this label, likewise
unfoldable pub macro_after : List ℕ → Bool → List Statement → Option Macro
macro_after name within [] = None
macro_after name true (s ∷ below) = macro_after name (not (ends_macro s)) below
macro_after name false (s ∷ below) = if begins_macro s && has_end below
    then (if has_label (macro_name s) name then Some (record { params = s.params; body = body_of below }) else macro_after name true below)
    else macro_after name false below

abbrev pub macro_named : List ℕ → List Statement → Option Macro
macro_named name text = macro_after name false text
