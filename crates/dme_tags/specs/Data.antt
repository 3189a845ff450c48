-- The data that open commands ask for, and those that they have (this profile).
use Rattle.std.specs.Prelude.{◌≡◌, Bool, true, not, ◌||◌, ⊤, Option, Some, None, List, [], ◌∷◌}
use Rattle.dme_line.specs.declared.commands.Kind.{Kind}
use Rattle.protocol_model.specs.Open.{asks_data, fits}
use Rattle.protocol_model.specs.declared.held.Datum.{Datum}
use Rattle.protocol_model.specs.declared.held.OpenCommand.{OpenCommand}
use Rattle.protocol_model.specs.declared.held.Stage.{Stage}
use Rattle.dme_tags.specs.declared.endings.Ended.{Ended}
use Rattle.dme_tags.specs.declared.endings.Ended.TheVariants as ended

-- data that may be given to a command of this kind, if one is held: a point to a touch, whether the machine is homed to IsHomed, and any
-- where no data is asked for
abbrev pub may_be_given : Option Kind → Datum → Bool
may_be_given None datum = true
may_be_given (Some kind) datum = not (asks_data kind) || fits kind datum

-- what a command of this kind has at this stage is what it asks for
abbrev pub is_fit : Kind → Stage → Bool
is_fit kind Stage.Sent = true
is_fit kind Stage.Received = true
is_fit kind (Stage.Given datum) = fits kind datum
is_fit kind Stage.Failed = true

-- likewise for each of these commands
abbrev pub AreFit : List OpenCommand → Type 0
AreFit [] = ⊤
AreFit (h ∷ hs) = (is_fit h.kind h.stage ≡ true) × AreFit hs

-- a counted command has the data that it asks for: a touch its point, IsHomed whether the machine is homed, any other none
abbrev pub has_its_data : Ended → Bool
has_its_data (ended.Counted kind None) = not (asks_data kind)
has_its_data (ended.Counted kind (Some datum)) = fits kind datum
has_its_data ended.Closed = true
