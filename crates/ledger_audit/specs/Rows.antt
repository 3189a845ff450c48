-- Examples of what a verdict says (this profile).
-- No theorem cites these definitions: they show what a verdict allows, and what it refuses.
use Rattle.std.specs.Prelude.{ℕ, List, [], ◌∷◌, codes}
use Rattle.contact_ledger.specs.declared.acts.Act.{Act}
use Rattle.contact_ledger.specs.declared.features.Feature.{Feature}
use Rattle.protocol_model.specs.LedgerRows.{first_contact, second_contact, measured_as}

-- the two contacts that a feature wants, made twice
abbrev pub made_twice : List (ℕ × Act)
made_twice = first_contact ∷ second_contact ∷ first_contact ∷ second_contact ∷ []

-- feature A with the points of both
abbrev pub once : List Feature
once = measured_as (codes "A") ∷ []

-- feature A, and a feature that the program does not have
abbrev pub once_more : List Feature
once_more = measured_as (codes "A") ∷ measured_as (codes "B") ∷ []
