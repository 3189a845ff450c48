-- What is reported to the client of a world by events (this profile).
use Rattle.std.specs.Prelude.{◌≡◌, ℕ, List, [], ◌∷◌, ◌++◌}
use Rattle.contact_ledger.specs.declared.acts.Act.{Act}
use Rattle.protocol_model.specs.Ends.{ClientEnd}
use Rattle.protocol_model.specs.World.{World, after}
use Rattle.protocol_model.specs.declared.events.Event.{Event}
use Rattle.client_core.specs.Calls.{Call, behind_calls}
use Rattle.record_text.specs.Told.{told_between, told_behind}

-- the acts that the client counts, one event after another, each under the number of its connection
abbrev pub told_in : List Event → World → List (ℕ × Act)
told_in [] w = []
told_in (e ∷ es) w = told_between w.client (after e w).client ++ told_in es (after e w)

-- calls of a client, one after another, from one end to another, which report these acts
pub record AreCalls (old new : ClientEnd) (told : List (ℕ × Act)) : Type 0 where
  pub calls : List Call
  pub end_is : new ≡ behind_calls calls old
  pub told_is : told ≡ told_behind calls old
