-- What is reported to the watcher of a run (this profile).
use Rattle.std.specs.Prelude.{◌≡◌, ℕ, ◌+◌, ⊤, Option, None, Some, List, [], ◌∷◌, ◌++◌, length}
use Rattle.contact_ledger.specs.declared.features.Feature.{Feature}
use Rattle.protocol_model.specs.Ends.{ClientEnd}

-- one report to a watcher: a feature is completed, the one with this number among those of the program
pub data Note : Type 0 where
  Completed : ℕ → Feature → Note

-- features as they are reported to a watcher: each once, in order, the first of them with this number
abbrev pub notes_from : ℕ → List Feature → List Note
notes_from n [] = []
notes_from n (f ∷ fs) = Completed n f ∷ notes_from (n + 1) fs

-- a watcher received exactly these notes after all that it had received before; one that no longer says what it received says nothing
abbrev pub Hears : {T : Type 0} → (told told_now : Option (List T)) → List T → Type 0
Hears told None notes = ⊤
Hears None (Some now) notes = ⊥
Hears (Some before) (Some now) notes = now ≡ before ++ notes

-- what a call of a run reports to its watcher, from the client before and after it: the features that the client holds now are those that
-- it held, followed by the completed ones, and each of these was reported to the watcher, under its number among all, counted from 1
pub record TellsRun (old new : ClientEnd) (told told_now : Option (List Note)) : Type 0 where
  pub completed : List Feature
  pub joined : new.client.table.tally.features ≡ old.client.table.tally.features ++ completed
  pub heard : Hears told told_now (notes_from (length old.client.table.tally.features + 1) completed)
