-- Where the words of a statement are in the bytes from its line on (this profile). Each is searched for after the one before it.
use Rattle.std.specs.Prelude.{ℕ, ◌+◌, List, length, take, fold, Option, Some, None}
use Rattle.std.specs.Option.{option_map}
use Rattle.dmis_text.specs.declared.elements.Statement.{Statement}
use Rattle.program_review.specs.declared.causes.Cause.{Cause}
use Rattle.program_review.specs.declared.statements.Found.{Found}
use Rattle.program_review.specs.Words.{Named, Caused, caused, first_place, word_in}

-- the place after the first of these bytes from this place on
abbrev pub after_word : List ℕ → Option ℕ → List ℕ → Option ℕ
after_word rest None wanted = None
after_word rest (Some from) wanted = option_map (λ at. at + length wanted) (first_place rest from wanted)

-- the place after the label; the start if there is none
abbrev pub after_label : List ℕ → Option (List ℕ) → Option ℕ
after_label rest None = Some 0
after_label rest (Some label) = after_word rest (Some 0) label

-- the place after the first n parameters
abbrev pub after_params : List ℕ → Statement → ℕ → Option ℕ
after_params rest s n = fold (after_word rest) (after_word rest (after_label rest s.label) s.word) (take n s.params)

-- the first word of these bytes from this place on; without a place, the bytes themselves
abbrev pub word_from : List ℕ → Option ℕ → List ℕ → Named
word_from rest None wanted = record { bytes = wanted; at = None }
word_from rest (Some from) wanted = word_in rest from wanted

-- a label
abbrev pub label_spot : List ℕ → List ℕ → Named
label_spot rest label = word_in rest 0 label

-- a part of the major word
abbrev pub part_spot : List ℕ → Statement → List ℕ → Named
part_spot rest s part = word_from rest (after_label rest s.label) part

-- the major word
abbrev pub word_spot : List ℕ → Statement → Named
word_spot rest s = part_spot rest s s.word

-- a part of parameter n, counted from 0
abbrev pub param_spot : List ℕ → Statement → ℕ → List ℕ → Named
param_spot rest s n part = word_from rest (after_params rest s n) part

-- a statement, and the bytes from its line on
pub record Site : Type 0 where
  pub rest : List ℕ
  pub statement : Statement

-- how the code keeps it
abbrev pub site_of : Found → Site
site_of found = record { rest = found.rest.now; statement = found.statement.now }

-- its major word is at fault, or a part of its parameter n
abbrev pub at_word : Site → Cause → Option Caused
at_word p why = Some (caused why (word_spot p.rest p.statement))

abbrev pub at_param : Site → ℕ → List ℕ → Cause → Option Caused
at_param p n part why = Some (caused why (param_spot p.rest p.statement n part))
