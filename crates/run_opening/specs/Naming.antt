-- The files that one call names, and when two of them meet (this profile).
use Rattle.std.specs.Prelude.{◌≡◌, ◌⊎◌, ◌≤◌, ◌<◌, ℕ, Bool, true, false, if◌then◌else◌, List, [], ◌∷◌, codes, Option, None, Some, is_some, get_or, option_map, string_bytes}
use Rattle.std.specs.Str.{bytes_eq}
use Rattle.dme_words.specs.declared.orders.Run.{Run}
use Rattle.effects.specs.Naming as naming
use Rattle.effects.specs.Naming.{Seen, IsIn, IsSeen}

-- a name that is not that of standard input
abbrev pub given : List ℕ → Option (List ℕ)
given name = if bytes_eq name (codes "-") then None else Some name

-- the files of the options, in the order of their numbers, if they are named
abbrev pub names_of : Run → List (Option (List ℕ))
names_of run =
    given (string_bytes run.setup) ∷ given (string_bytes run.program)
    ∷ option_map string_bytes run.features ∷ option_map string_bytes run.record ∷ option_map string_bytes run.contacts
    ∷ option_map string_bytes run.log ∷ option_map string_bytes run.stop ∷ option_map string_bytes run.seal_key ∷ []

-- that of a number
abbrev pub name_at : ℕ → Run → Option (List ℕ)
name_at n run = get_or (names_of run) n None

abbrev pub or_nothing : Option (List ℕ) → List ℕ
or_nothing None = []
or_nothing (Some name) = name

-- those of features, record and contacts, and the log, are written
abbrev pub written : List Bool
written = false ∷ false ∷ true ∷ true ∷ true ∷ true ∷ false ∷ false ∷ []

-- none is named from one number to another
abbrev pub AreNone : (from to : ℕ) → Run → Type 0
AreNone from to run = (n : ℕ) → from ≤ n → n < to → name_at n run ≡ None

-- nothing of a run's files stays next to them under another name
abbrev pub Disturbs : Seen → Seen → Type 0
Disturbs = naming.Disturbs false written

abbrev pub IsClear : List Seen → Seen → Type 0
IsClear = naming.IsClear false written

abbrev pub AreApart : List Seen → Type 0
AreApart = naming.AreApart false written

-- each file that is named, of those with smaller numbers, is among these, or lacks a place: its folder is not there, or it is a folder itself,
-- a device or a pipe
pub record Covers (run : Run) (at : ℕ) (placeless : List ℕ) (seen : List Seen) : Type 0 where
  pub each : (n : ℕ) → n < at → is_some (name_at n run) ≡ true → IsIn n placeless ⊎ IsSeen n seen

-- all files of the call that are named were looked for, and none of them disturbs a later one
pub record AreCompared (run : Run) (placeless : List ℕ) (seen : List Seen) : Type 0 where
  pub apart : AreApart seen
  pub covers : Covers run 8 placeless seen
