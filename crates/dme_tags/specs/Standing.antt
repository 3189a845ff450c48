-- How far the command is that is held under a tag, and what may come for it then (this profile).
use Rattle.std.specs.Prelude.{◌≡◌, true, false, if◌then◌else◌, Option, Some, None, List, [], ◌∷◌}
use Rattle.dme_line.specs.declared.tags.Tag.{Tag}
use Rattle.dme_line.specs.declared.commands.Kind.{Kind}
use Rattle.protocol_model.specs.Replies.{tag_is}
use Rattle.protocol_model.specs.Open.{asks_data}
use Rattle.protocol_model.specs.declared.held.Datum.{Datum}
use Rattle.protocol_model.specs.declared.held.OpenCommand.{OpenCommand}
use Rattle.protocol_model.specs.declared.held.Stage.{Stage}
use Rattle.dme_tags.specs.Opened.{OpenValue, held_beside, IsNext}

-- the kind and the stage of the first command of a tag
abbrev pub standing_in : Tag → List OpenCommand → Option (Kind × Stage)
standing_in t [] = None
standing_in t (h ∷ hs) = if tag_is h.tag t then Some (h.kind, h.stage) else standing_in t hs

-- the kind and the stage of the command that is held under a tag of either sort
abbrev pub standing : Tag → OpenValue → Option (Kind × Stage)
standing t o = standing_in t (held_beside t o)

-- a command is held under the tag, and nothing was read for it
abbrev pub IsUnread : Tag → OpenValue → Type 0
IsUnread t o = (kind : Kind) × (standing t o ≡ Some (kind, Stage.Sent))

-- a command is held under the tag, and has failed
abbrev pub HasFailed : Tag → OpenValue → Type 0
HasFailed t o = (kind : Kind) × (standing t o ≡ Some (kind, Stage.Failed))

-- a command that asks for data is held under the tag, was received and has none yet, and it is next
abbrev pub AwaitsData : Tag → OpenValue → Type 0
AwaitsData t o = ((kind : Kind) × (asks_data kind ≡ true) × (standing t o ≡ Some (kind, Stage.Received))) × IsNext t o

-- a command that asks for data is held under the tag and has them, and it is next
abbrev pub HasData : Tag → OpenValue → Type 0
HasData t o = ((kind : Kind) × (asks_data kind ≡ true) × ((datum : Datum) × (standing t o ≡ Some (kind, Stage.Given datum)))) × IsNext t o

-- a command of this kind is held under the tag, is next, and has all that it asks for: no data where it was received, or these
abbrev pub CountsAs : Tag → OpenValue → Kind → Option Datum → Type 0
CountsAs t o kind None = (standing t o ≡ Some (kind, Stage.Received)) × (asks_data kind ≡ false) × IsNext t o
CountsAs t o kind (Some datum) = (standing t o ≡ Some (kind, Stage.Given datum)) × IsNext t o
