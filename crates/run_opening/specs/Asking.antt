-- What is asked of the outside before a run's server is called, and which run is begun (this profile).
use Rattle.std.specs.Prelude.{◌≡◌, ⊤, ℕ, Bool, true, false, List, [], codes, Option, None, Some, String, string_bytes}
use Rattle.std.specs.Global.{Global}
use Rattle.std.specs.Option.{option_map_or}
use Rattle.dme_words.specs.declared.orders.Run.{Run}
use Rattle.effects.specs.declared.vocabulary.Slot.TheVariants.{Up}
use Rattle.effects.specs.declared.vocabulary.Growth.TheVariants as growth
use Rattle.effects.specs.Effects.{Ask, Where, Named, Input, Nowhere, Open, Read, Byte, Exists, Look, Place, Node, Hold, Fill, Discard, Say, Exit}
use Rattle.protocol_model.specs.Ends.{ClientEnd}
use Rattle.record_text.specs.declared.opening.Beginning.{Beginning}
use Rattle.record_text.specs.Recordings.{Pair}
use Rattle.run_session.specs.Records.{Start}
use Rattle.run_opening.specs.declared.stages.Text.{Text}
use Rattle.run_opening.specs.declared.stages.Text.TheVariants as text
use Rattle.run_opening.specs.declared.stages.Stage.{Stage}
use Rattle.run_opening.specs.declared.stages.Stage.TheVariants as stage
use Rattle.run_opening.specs.Naming.{name_at, or_nothing}
use Rattle.run_opening.specs.Openings.{State}

-- the name of a file, or nothing
abbrev pub named : Option (String Global) → List ℕ
named name = option_map_or string_bytes name []

abbrev pub name_of : Text → Run → List ℕ
name_of text.Setup run = string_bytes run.setup
name_of text.Features run = named run.features
name_of text.Program run = string_bytes run.program
name_of text.Key run = named run.seal_key
name_of text.Record run = named run.record

-- a text comes from the file of its name; that of `-` from standard input, or from nowhere if that is taken
abbrev pub IsFrom : List ℕ → Where → Type 0
IsFrom name (Named file) = file ≡ name
IsFrom name Input = name ≡ codes "-"
IsFrom name Nowhere = name ≡ codes "-"

abbrev pub IsOpenOf : List ℕ → Ask → Type 0
IsOpenOf name (Open slot place) = IsFrom name place
IsOpenOf name ask = ⊥

-- the text that a record is to have, and how many bytes of it its file has
abbrev pub IsTextOf : Option Beginning → List ℕ → ℕ → Type 0
IsTextOf None text held = ⊤
IsTextOf (Some b) text held = (text ≡ b.text.items) × (held ≡ b.held)

abbrev pub IsFillOf : Option Beginning → Ask → Type 0
IsFillOf b (Fill growth.Record text held length) = IsTextOf b text held
IsFillOf b ask = ⊥

abbrev pub IsSay : Ask → Type 0
IsSay (Say text) = ⊤
IsSay ask = ⊥

abbrev pub AsksAt : Stage → State → Ask → Type 0
AsksAt (stage.Placing at) s ask = ask ≡ Place (or_nothing (name_at at s.core.order))
AsksAt (stage.Numbering at) s ask = ask ≡ Node (or_nothing (name_at at s.core.order))
AsksAt stage.HoldingRecord s ask = ask ≡ Hold growth.Record (named s.core.order.record)
AsksAt stage.LookingFeatures s ask = ask ≡ Look (named s.core.order.features)
AsksAt stage.HoldingFeatures s ask = ask ≡ Hold growth.Features (named s.core.order.features)
AsksAt stage.LookingContacts s ask = ask ≡ Look (named s.core.order.contacts)
AsksAt stage.HoldingContacts s ask = ask ≡ Hold growth.Contacts (named s.core.order.contacts)
AsksAt (stage.Opening t) s ask = IsOpenOf (name_of t s.core.order) ask
AsksAt (stage.Reading t) s ask = ask ≡ Read Up
AsksAt stage.Warning s ask = IsSay ask
AsksAt stage.Peeking s ask = ask ≡ Exists (named s.core.order.stop)
AsksAt stage.Filling s ask = IsFillOf s.core.beginning ask
AsksAt stage.Telling s ask = IsSay ask
AsksAt stage.Confirming s ask = ask ≡ Byte
AsksAt stage.Returning s ask = ask ≡ Byte
AsksAt stage.Ready s ask = ask ≡ Exit s.status
AsksAt stage.DiscardingFeatures s ask = ask ≡ Discard growth.Features
AsksAt stage.DiscardingContacts s ask = ask ≡ Discard growth.Contacts
AsksAt stage.DiscardingRecord s ask = ask ≡ Discard growth.Record
AsksAt stage.Ending s ask = IsSay ask
AsksAt stage.Exiting s ask = ask ≡ Exit s.status

abbrev pub Asks : State → Ask → Type 0
Asks s ask = AsksAt s.stage s ask

abbrev pub is_of_files : Stage → Bool
is_of_files stage.HoldingRecord = true
is_of_files stage.LookingFeatures = true
is_of_files stage.HoldingFeatures = true
is_of_files stage.LookingContacts = true
is_of_files stage.HoldingContacts = true
is_of_files stage.Filling = true
is_of_files stage.DiscardingFeatures = true
is_of_files stage.DiscardingContacts = true
is_of_files stage.DiscardingRecord = true
is_of_files s = false

-- the run that is begun has the client that was made, and the record's text that it begins with
abbrev pub IsSessionOf : Option ClientEnd → Option Start → Pair → Type 0
IsSessionOf None start pair = ⊥
IsSessionOf (Some e) None pair = ⊥
IsSessionOf (Some e) (Some start) pair = pair ≡ record { end = e; recording = start.growth }
