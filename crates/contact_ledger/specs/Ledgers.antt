-- What a server's ledger holds.
use Rattle.std.specs.Prelude.{ℕ, ◌≤◌, Bool, true, false, List, All, count_by, Option, Some, None}
use Rattle.contact_ledger.specs.declared.acts.Act.{Act}
use Rattle.contact_ledger.specs.declared.acts.Act.TheVariants as act
use Rattle.contact_ledger.specs.declared.features.Origin.{Origin}
use Rattle.contact_ledger.specs.declared.features.Feature.{Feature}

-- an act is a contact (this profile)
abbrev pub is_contact : Act → Bool
is_contact (act.HomedIs homed) = false
is_contact act.Homed = false
is_contact (act.Moved target frame) = false
is_contact (act.Changed tool) = false
is_contact (act.Framed frame) = false
is_contact (act.Contact target dir tool frame point) = true

-- how many acts of a ledger are contacts; a contact's number is this count of the acts before it (this profile)
abbrev pub contact_count : List (ℕ × Act) → ℕ
contact_count acts = count_by (λ entry. is_contact entry.1) acts

-- the number of the last connection that there may be (this profile)
abbrev pub connection_most : ℕ
connection_most = 4000000000

-- a number that a connection may have
abbrev pub IsConnection : ℕ → Type 0
IsConnection n = (1 ≤ n) × (n ≤ connection_most)

-- each act of a ledger is next to such a number
abbrev pub AreOnConnections : List (ℕ × Act) → Type 0
AreOnConnections acts = All (λ entry. IsConnection entry.0) acts

-- an origin is unknown, or on a connection with such a number
abbrev pub IsOrigin : Option Origin → Type 0
IsOrigin None = Unit {0}
IsOrigin (Some origin) = IsConnection origin.connection

-- each feature of a list has such an origin
abbrev pub HaveOrigins : List Feature → Type 0
HaveOrigins features = All (λ feature. IsOrigin feature.origin) features
