-- What is asked of the files that a call names, and what is known of them by what was answered (this profile).
use Rattle.std.specs.Prelude.{◌≡◌, ◌⊎◌, ◌<◌, ◌++◌, ◌∷◌, [], ⊤, ℕ, true, List, length, get_or, Option, None, Some}
use Rattle.effects.specs.Effects.{Ask, Place, Node, Say, Exit, Reply, Bytes}
use Rattle.effects.specs.declared.comparisons.Stage.{Stage}
use Rattle.effects.specs.declared.comparisons.Stage.TheVariants as stage
use Rattle.effects.specs.Naming.{Files, Seen, AreApart, IsIn, IsSeen}

pub record State : Type 0 where
  pub stage : Stage
  pub at : ℕ  -- the file that is looked for
  pub files : Files
  pub place : List ℕ  -- that of the file that is looked for
  pub called : List Seen  -- those that were compared
  pub status : ℕ

-- what the outside has answered so far: the files that lack a place, that of the last one, and those that have one
pub record Answered : Type 0 where
  pub placeless : List ℕ
  pub place : List ℕ
  pub seen : List Seen

abbrev pub unasked : Answered
unasked = record { placeless = []; place = []; seen = [] }

abbrev pub bytes_of : Reply → Option (List ℕ)
bytes_of (Bytes bytes) = Some bytes
bytes_of reply = None

abbrev pub placed : ℕ → Option (List ℕ) → Answered → Answered
placed at (Some place) a = record a { place = place }
placed at None a = record a { placeless = at ∷ a.placeless }

abbrev pub numbered : ℕ → Option (List ℕ) → Answered → Answered
numbered at node a = record a { seen = a.seen ++ record { at = at; place = a.place; node = node } ∷ [] }

abbrev pub outcome : Stage → ℕ → Reply → Answered → Answered
outcome stage.Placing at reply a = placed at (bytes_of reply) a
outcome stage.Numbering at reply a = numbered at (bytes_of reply) a
outcome s at reply a = a

-- each file before this number is among these, or lacks a place: its folder is not there, or it is a folder itself, a device or a pipe
pub record Covers (at : ℕ) (placeless : List ℕ) (seen : List Seen) : Type 0 where
  pub each : (n : ℕ) → n < at → IsIn n placeless ⊎ IsSeen n seen

-- the files before this number were looked for, and none of them disturbs a later one
pub record AreCompared (s : State) (at : ℕ) (a : Answered) : Type 0 where
  pub seen : a.seen ≡ s.called
  pub apart : AreApart true s.files.written a.seen
  pub covers : Covers at a.placeless a.seen

-- likewise, and this one is next
pub record IsComparing (s : State) (a : Answered) : Type 0 where
  pub compared : AreCompared s s.at a
  pub within : s.at < length s.files.names

-- memory has run out, or a file disturbs a later one
abbrev pub IsRefused : State → Answered → Type 0
IsRefused s a = (s.status ≡ 4) ⊎ ((s.status ≡ 2) × (AreApart true s.files.written a.seen → ⊥))

-- what is known at a stage
abbrev pub KnownAt : Stage → State → Answered → Type 0
KnownAt stage.Placing s a = IsComparing s a
KnownAt stage.Numbering s a = IsComparing s a × (s.place ≡ a.place)
KnownAt stage.Apart s a = AreCompared s (length s.files.names) a
KnownAt stage.Refused s a = IsRefused s a
KnownAt stage.Exiting s a = IsRefused s a

abbrev pub Known : State → Answered → Type 0
Known s a = KnownAt s.stage s a

-- it is known after an answer, too
abbrev pub GoesOn : State → Reply → State → Type 0
GoesOn s reply t = (a : Answered) → Known s a → Known t (outcome s.stage s.at reply a)

-- nothing of the call is done, since two of its files are one
abbrev pub Ends : State → State → Type 0
Ends s t = t ≡ record s { stage = stage.Refused; status = 2 }

-- the next file is compared, once those before it were, or all were
abbrev pub Compares : State → State → Type 0
Compares s t = (a : Answered) → AreCompared s s.at a → Known t a

-- a file joins those before it
abbrev pub Joins : Seen → State → State → Type 0
Joins x s t = (a : Answered) → x.at ≡ s.at → AreCompared s s.at a → Known t (record a { seen = a.seen ++ x ∷ [] })

abbrev pub IsSay : Ask → Type 0
IsSay (Say text) = ⊤
IsSay ask = ⊥

-- what each stage asks for, and nothing else
abbrev pub AsksAt : Stage → State → Ask → Type 0
AsksAt stage.Placing s ask = ask ≡ Place (get_or s.files.names s.at [])
AsksAt stage.Numbering s ask = ask ≡ Node (get_or s.files.names s.at [])
AsksAt stage.Refused s ask = IsSay ask
AsksAt stage.Apart s ask = ask ≡ Exit s.status
AsksAt stage.Exiting s ask = ask ≡ Exit s.status

abbrev pub Asks : State → Ask → Type 0
Asks s ask = AsksAt s.stage s ask
