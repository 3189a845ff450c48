-- How the code holds the statements of a macro that is called: each as a text that says it. No public clause cites it.
use Rattle.std.specs.Prelude.{◌≡◌, ℕ, [], ◌∷◌, ◌++◌, List, Option, Some, None}
use Rattle.dmis_text.specs.Reading.{text_reading}
use Rattle.dmis_text.specs.declared.elements.Statement.{Statement}

-- a text says one statement
pub record Says (text : List ℕ) (s : Statement) : Type 0 where
  pub only : text_reading text ≡ record { statements = s ∷ []; fault = None }

-- the statement that a text says which says one
abbrev pub the_said : Option Statement → Statement
the_said None = record { line = 0; label = None; word = []; params = [] }
the_said (Some s) = s

-- some statements, and after them others, if each of these says one
abbrev pub prepended : List Statement → Option (List Statement) → Option (List Statement)
prepended front None = None
prepended front (Some others) = Some (front ++ others)
