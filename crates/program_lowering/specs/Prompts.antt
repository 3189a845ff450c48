-- Answers to `NAME=PROMPT/..` (ISO 22093): a statement that asks for a value which has an answer says what `NAME=ASSIGN/TEXT` says on its line
-- (this profile). It stays as it is if that line says no statement, or says several.
use Rattle.std.specs.Prelude.{ℕ, List, [], ◌∷◌, ◌++◌, codes, bytes_eq, map, Option, Some, None, if◌then◌else◌}
use Rattle.std.specs.Char.{to_ascii_uppercase}
use Rattle.dmis_text.specs.declared.elements.Statement.{Statement}
use Rattle.program_flow.specs.Macros.{said_by}

-- the name of a variable, as the reader takes labels, and the text of its value
pub record Answer : Type 0 where
  pub name : List ℕ
  pub text : List ℕ

-- as it is given, where small letters of the name count as capitals
abbrev pub answer_of : List ℕ → List ℕ → Answer
answer_of name text = record { name = map to_ascii_uppercase name; text = text }

-- the text of the first answer of a name
abbrev pub first_answer : List Answer → List ℕ → Option (List ℕ)
first_answer [] name = None
first_answer (a ∷ answers) name = if bytes_eq a.name name then Some a.text else first_answer answers name

-- the name that a statement asks a value for, and the answer to it
abbrev pub asked : Statement → Option (List ℕ)
asked s = if bytes_eq s.word (codes "PROMPT") then s.label else None

abbrev pub answer_to : List Answer → Option (List ℕ) → Option (List ℕ)
answer_to answers None = None
answer_to answers (Some name) = first_answer answers name

-- the line that assigns a text, and a statement with what it says in the place of its word and parameters
abbrev pub assigning : List ℕ → List ℕ
assigning text = codes "ASSIGN/" ++ text

abbrev pub replaced : Statement → Option Statement → Statement
replaced s None = s
replaced s (Some said) = record said { label = s.label }

abbrev pub with_answer : Statement → Option (List ℕ) → Statement
with_answer s None = s
with_answer s (Some text) = replaced s (said_by s.line (assigning text))

abbrev pub answered : List Answer → Statement → Statement
answered answers s = with_answer s (answer_to answers (asked s))
