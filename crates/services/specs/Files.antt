-- What a session knows of its files: the name of a contacts file, and what of it stays the same when a text is added to it; and how many of
-- a recording are counted (this profile).
use Rattle.std.specs.Prelude.{◌≡◌, ℕ, List, [], Option, Some, None, string_bytes}
use Rattle.services.specs.declared.contacts.Contacts.{Contacts}
use Rattle.services.specs.declared.contacts.GrowingNames.{GrowingNames}
use Rattle.services.specs.declared.recordings.Made.{Made}
use Rattle.services.specs.declared.recordings.Made.TheVariants as made
use Rattle.services.specs.declared.recordings.Recording.{Recording}

-- the name, or nothing
abbrev pub name_of : Option GrowingNames → List ℕ
name_of None = []
name_of (Some names) = string_bytes names.name

-- which files of a recording are counted, and how many
abbrev pub made_of : Option Recording → Made
made_of None = made.Nothing
made_of (Some recording) = recording.made

abbrev pub count_of : Made → ℕ
count_of made.Nothing = 0
count_of made.Up = 1
count_of made.UpAndDown = 2
count_of made.All = 3

pub record AreSame (old new : Contacts) : Type 0 where
  pub names : new.names ≡ old.names
  pub grows : new.grows ≡ old.grows
  pub lost : new.has_failed ≡ old.has_failed
