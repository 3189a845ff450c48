-- Examples of what is claimed: features and counted acts next to ledgers that are written out
-- (this profile).
-- No theorem cites these definitions: they show what the claim allows, and what it refuses.
use Rattle.std.specs.Prelude.{ℕ, pos, true, false, Option, List, [], ◌∷◌, codes}
use Rattle.fixed_um.specs.Shapes.{Direction}
use Rattle.fixed_um.specs.declared.lengths.Point.{Point}
use Rattle.fixed_um.specs.declared.frames.Frame.{Frame}
use Rattle.fixed_um.specs.declared.frames.Frame.TheVariants as frame
use Rattle.contact_ledger.specs.declared.acts.Act.{Act}
use Rattle.contact_ledger.specs.declared.acts.Act.TheVariants as act
use Rattle.contact_ledger.specs.declared.features.Feature.{Feature}
use Rattle.dmis_program.specs.Meaning.{touch_with}
use Rattle.dmis_program.specs.declared.features.Touch.{Touch}
use Rattle.dmis_program.specs.declared.features.Wanted.{Wanted}
use Rattle.protocol_model.specs.Examples.{at, from_above, tool, feature}

-- an act of a ledger: a contact on this connection, for this target, direction, tool and frame,
-- with this reported point
abbrev pub contact_of : ℕ → Point → Option Direction → List ℕ → Frame → Point → ℕ × Act
contact_of connection target dir name frame point =
    (connection, act.Contact target dir name frame point)

-- the two touches that are wanted of feature A
abbrev pub first_touch : Touch
first_touch = touch_with tool frame.Machine (at (pos 10000) (pos 0) (pos 0)) from_above

abbrev pub second_touch : Touch
second_touch = touch_with tool frame.Machine (at (pos 20000) (pos 0) (pos 0)) from_above

-- feature A alone is wanted
abbrev pub one_wanted : List Wanted
one_wanted = record { label = codes "A"; touches = first_touch ∷ second_touch ∷ [] } ∷ []

-- two features are wanted, with the same touches
abbrev pub two_wanted : List Wanted
two_wanted = record { label = codes "A"; touches = first_touch ∷ second_touch ∷ [] }
    ∷ record { label = codes "B"; touches = first_touch ∷ second_touch ∷ [] } ∷ []

-- the points that the contacts report
abbrev pub first_point : Point
first_point = at (pos 10002) (pos 0) (pos 0)

abbrev pub second_point : Point
second_point = at (pos 20000) (pos 0) (pos 4)

-- the contact that the first touch wants
abbrev pub first_contact : ℕ × Act
first_contact =
    contact_of 1 (at (pos 10000) (pos 0) (pos 0)) from_above tool frame.Machine first_point

-- the contact that the second touch wants
abbrev pub second_contact : ℕ × Act
second_contact =
    contact_of 1 (at (pos 20000) (pos 0) (pos 0)) from_above tool frame.Machine second_point

-- a ledger with the first contact, and this act in the place of the second
abbrev pub ledger_with : ℕ × Act → List (ℕ × Act)
ledger_with last =
    (1, act.Homed) ∷ (1, act.Framed frame.Machine) ∷ (1, act.Changed tool) ∷ first_contact
    ∷ (1, act.Moved (at (pos 20000) (pos 0) (pos 30000)) frame.Machine) ∷ last ∷ []

-- the ledger of a server that did what was wanted
abbrev pub right_ledger : List (ℕ × Act)
right_ledger = ledger_with second_contact

-- a feature with the points of both contacts
abbrev pub measured_as : List ℕ → Feature
measured_as label = feature label (first_point ∷ second_point ∷ [])

-- acts on two connections: the machine went home on each, the tool was changed on the first alone
abbrev pub two_connections : List (ℕ × Act)
two_connections =
    (1, act.Homed) ∷ (1, act.Changed tool) ∷ (2, act.Homed) ∷ (2, act.Framed frame.Machine) ∷ []

-- acts on two connections: the machine was asked on each whether it is homed, and went home on the
-- first alone
abbrev pub asked_twice : List (ℕ × Act)
asked_twice =
    (1, act.HomedIs false) ∷ (1, act.Homed) ∷ (2, act.HomedIs true) ∷ (2, act.Framed frame.Machine)
    ∷ []
