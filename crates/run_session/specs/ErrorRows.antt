-- Literal commands and features, for the examples of errors.
use Rattle.std.specs.Prelude.{ℕ, List, [], ◌∷◌, codes}
use Rattle.dme_line.specs.declared.commands.Kind.{Kind}
use Rattle.dme_line.specs.declared.tags.Tag.TheVariants.{Std}
use Rattle.dmis_program.specs.declared.features.Touch.{Touch}
use Rattle.dmis_program.specs.declared.features.Wanted.{Wanted}
use Rattle.session_telling.specs.declared.sessions.Sent.{Sent}

-- a command under tag 5
abbrev pub row : Kind → (touches tasks : ℕ) → Sent
row kind touches tasks = record { tag = Std 5; kind = kind; touches = touches; tasks = tasks }

-- a feature of one touch, and one of two
abbrev pub two : Touch → List Wanted
two t = record { label = codes "A"; touches = t ∷ [] } ∷ record { label = codes "B"; touches = t ∷ t ∷ [] } ∷ []
