-- What an order takes from the record of a run (this profile).
use Rattle.std.specs.Prelude.{◌≡◌, ℕ, List, [], Option, Some, None}
use Rattle.contact_ledger.specs.declared.acts.Act.{Act}
use Rattle.contact_ledger.specs.declared.features.Feature.{Feature}
use Rattle.dmis_program.specs.Meaning.{Meaning}
use Rattle.record_text.specs.Records.{Recorded}
use Rattle.record_text.specs.Strangers.{IsFirstOther}

-- a record asked for the features of this program; one that is not begun is of any
abbrev pub IsOfProgram : Option Recorded → Meaning → Type 0
IsOfProgram None program = Unit {0}
IsOfProgram (Some held) program = held.asked ≡ program.features

-- this feature is the first in which a record is not of this program
abbrev pub DiffersAt : Option Recorded → Meaning → List ℕ → Type 0
DiffersAt None program label = ⊥
DiffersAt (Some held) program label = IsFirstOther held.asked program.features label

-- the features that a record completes; a record that is not begun has none
abbrev pub features_in : Option Recorded → List Feature
features_in None = []
features_in (Some held) = held.features

-- the acts that a record says a server reported
abbrev pub told_in : Option Recorded → List (ℕ × Act)
told_in None = []
told_in (Some held) = held.told
