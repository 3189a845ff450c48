-- What a world shows, and its text (this profile).
use Rattle.std.specs.Prelude.{ℕ, suc, List, [], ◌∷◌, ◌++◌, codes, decimal}
use Rattle.std.specs.List.{flat_map}
use Rattle.fixed_um.specs.Written.{printed_point}
use Rattle.fixed_um.specs.declared.lengths.Point.{Point}
use Rattle.contact_ledger.specs.declared.acts.Act.{Act}
use Rattle.contact_ledger.specs.declared.features.Feature.{Feature}
use Rattle.protocol_model.specs.Claims.{MadeContact, contacts}
use Rattle.protocol_model.specs.declared.states.State.{State}
use Rattle.link_world.specs.declared.texts.reports.Report.{Report}
use Rattle.link_world.specs.declared.texts.reports.Reported.{Reported}

-- what is shown of a contact with this number
abbrev pub shown : ℕ → MadeContact → Reported
shown number made = record { number = number; connection = made.connection; point = made.point }

-- contacts numbered from this number on, each with its number
abbrev pub numbered_from : ℕ → List MadeContact → List Reported
numbered_from number [] = []
numbered_from number (made ∷ more) = shown number made ∷ numbered_from (suc number) more

-- the contacts of a ledger, numbered from 0
abbrev pub reported : List (ℕ × Act) → List Reported
reported ledger = numbered_from 0 (contacts ledger)

-- a line: its text and LF
abbrev pub line : List ℕ → List ℕ
line text = text ++ codes "\n"

-- the name of a state
abbrev pub state_name : State → List ℕ
state_name State.Apart = codes "Apart"
state_name State.Running = codes "Running"
state_name State.Failing = codes "Failing"
state_name State.Aborting = codes "Aborting"
state_name State.Halted = codes "Halted"
state_name State.Done = codes "Done"
state_name State.Faulted = codes "Faulted"

-- the line of a contact: its number, its connection, and the reported point
abbrev pub contact_row : Reported → List ℕ
contact_row c =
    line (codes "CONTACT " ++ (decimal c.number ++ (codes " " ++ (decimal c.connection ++ (codes " " ++ printed_point c.point)))))

-- the lines of contacts, in order
abbrev pub contact_rows : List Reported → List ℕ
contact_rows cs = flat_map contact_row cs

-- the lines of points, in order
abbrev pub point_rows : List Point → List ℕ
point_rows ps = flat_map (λ p. line (printed_point p)) ps

-- the lines of a feature: its label, and each of its points
abbrev pub feature_row : Feature → List ℕ
feature_row f = line (codes "FEATURE " ++ f.label) ++ point_rows f.points

-- the lines of features, in order
abbrev pub feature_rows : List Feature → List ℕ
feature_rows fs = flat_map feature_row fs

-- the lines of a report: the state, how many acts are counted, the features, the contacts
abbrev pub report_text : Report → List ℕ
report_text r =
    line (codes "STATE " ++ state_name r.state)
    ++ (line (codes "COUNTED " ++ decimal r.counted) ++ (feature_rows r.features ++ contact_rows r.contacts))
