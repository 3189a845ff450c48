-- How the open commands of one sort of tags are kept. No public clause cites this module.
use Rattle.std.specs.Prelude.{◌≡◌, ◌≢◌, ℕ, Bool, not, ◌&&◌, ⊤, Option, None, IsSome, unwrap_or, List, [], ◌∷◌, map, slice_index_or}
use Rattle.dme_line.specs.declared.tags.Tag.TheVariants.{Std}
use Rattle.dme_line.specs.declared.commands.Kind.TheVariants as kind
use Rattle.protocol_model.specs.Open.{asks_homed, is_failed}
use Rattle.protocol_model.specs.declared.held.OpenCommand.{OpenCommand}
use Rattle.protocol_model.specs.declared.held.Stage.{Stage}

-- the slots of a slab, of which each holds a command or is vacant
abbrev pub Slots : Type 0
Slots = List (Option OpenCommand)

-- what is at a key
abbrev pub slot : Slots → ℕ → Option OpenCommand
slot slots key = slice_index_or slots key None

-- the command at a key; a key that is listed has one
abbrev pub command_at : Slots → ℕ → OpenCommand
command_at slots key = unwrap_or (slot slots key) (record { tag = Std 0; kind = kind.GoTo; stage = Stage.Sent })

-- the commands at these keys, in the order of the keys
abbrev pub listed : Slots → List ℕ → List OpenCommand
listed slots keys = map (command_at slots) keys

-- a key is not one of these
abbrev pub IsApart : ℕ → List ℕ → Type 0
IsApart key [] = ⊤
IsApart key (other ∷ others) = (key ≢ other) × IsApart key others

-- each of these keys has a command, and no two are the same
abbrev pub AreKeys : Slots → List ℕ → Type 0
AreKeys slots [] = ⊤
AreKeys slots (key ∷ keys) = IsSome (slot slots key) × IsApart key keys × AreKeys slots keys

-- a command that has not failed
abbrev pub is_open : OpenCommand → Bool
is_open h = not (is_failed h.stage)

-- an IsHomed that has not failed
abbrev pub is_open_question : OpenCommand → Bool
is_open_question h = asks_homed h.kind && not (is_failed h.stage)
