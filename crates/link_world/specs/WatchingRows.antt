-- Examples of what is reported to a watcher: features by their labels (this profile). No theorem cites these definitions.
use Rattle.std.specs.Prelude.{◌≡◌, Bool, List, [], ◌∷◌, ◌++◌, codes}
use Rattle.contact_ledger.specs.declared.features.Feature.{Feature}
use Rattle.protocol_model.specs.Ends.{ClientEnd}
use Rattle.protocol_model.specs.Examples.{feature}

abbrev pub cone : Feature
cone = feature (codes "CONE") []

abbrev pub disc : Feature
disc = feature (codes "DISC") []

abbrev pub edge : Feature
edge = feature (codes "EDGE") []

-- a watcher that notes of each client that it is shown whether that is on a connection
abbrev pub notes_on : ClientEnd → (old new : List Bool) → Type 0
notes_on e old new = new ≡ old ++ e.client.on ∷ []
