-- Undisturbed runs: nobody leaves, aborts or restarts, and the machine does what it is asked; and what is claimed of them (this profile).
use Rattle.std.specs.Prelude.{◌≡◌, ℕ, suc, ◌+◌, ◌%◌, ◌≤◌, length, Bool, true, false, if◌then◌else◌, List, [], ◌∷◌, ◌++◌}
use Rattle.contact_ledger.specs.declared.acts.Act.{Act}
use Rattle.contact_ledger.specs.declared.acts.Act.TheVariants as act
use Rattle.dme_line.specs.declared.tags.Tag.{Tag}
use Rattle.dme_line.specs.declared.tags.Tag.TheVariants.{Std}
use Rattle.dmis_program.specs.Meaning.{Meaning}
use Rattle.protocol_model.specs.Client.{is_homing, new_client}
use Rattle.protocol_model.specs.Ends.{ServerEnd, new_client_end, serving_left}
use Rattle.protocol_model.specs.World.{Link, World}
use Rattle.protocol_model.specs.Lines.{command_bytes}
use Rattle.protocol_model.specs.declared.events.Event.{Event}
use Rattle.protocol_model.specs.declared.events.Event.TheVariants.{Connect, Accept, ClientSends, Up, ServerReads, ServerTurn, Machine, Down}
use Rattle.protocol_model.specs.declared.events.Event.TheVariants.{ClientReads, ClientLeaves, ServerLeaves, Abort, Resume, ClientRestart}
use Rattle.protocol_model.specs.declared.events.Event.TheVariants.{ServerRestart}
use Rattle.protocol_model.specs.declared.lines.Line.{Line}
use Rattle.protocol_model.specs.declared.machine.Outcome.{Outcome}
use Rattle.protocol_model.specs.declared.plans.Does.{Does}
use Rattle.protocol_model.specs.declared.plans.Planned.{Planned}

-- an event that disturbs nothing: the two sides connect, write, read and work, bytes move, and the machine is done or has touched
abbrev pub IsUndisturbed : Event → Type 0
IsUndisturbed Connect = Unit {0}
IsUndisturbed (Accept n) = Unit {0}
IsUndisturbed ClientSends = Unit {0}
IsUndisturbed (Up k) = Unit {0}
IsUndisturbed ServerReads = Unit {0}
IsUndisturbed ServerTurn = Unit {0}
IsUndisturbed (Machine Outcome.Done) = Unit {0}
IsUndisturbed (Machine (Outcome.Touched at)) = Unit {0}
IsUndisturbed (Machine Outcome.Missed) = ⊥
IsUndisturbed (Machine Outcome.Fault) = ⊥
IsUndisturbed (Down k) = Unit {0}
IsUndisturbed ClientReads = Unit {0}
IsUndisturbed ClientLeaves = ⊥
IsUndisturbed ServerLeaves = ⊥
IsUndisturbed Abort = ⊥
IsUndisturbed Resume = ⊥
IsUndisturbed (ClientRestart k) = ⊥
IsUndisturbed ServerRestart = ⊥

-- events of which none disturbs
abbrev pub AreUndisturbed : List Event → Type 0
AreUndisturbed [] = Unit {0}
AreUndisturbed (e ∷ es) = IsUndisturbed e × AreUndisturbed es

-- ---- lines

-- the tag of the command with this place in a plan, from 0 on: the numbers from 1 to 9,999, again and again
abbrev pub tag_at : ℕ → Tag
tag_at place = Std (place % 9999 + 1)

-- commands without those that home the machine
abbrev pub without_homings : List Planned → List Planned
without_homings [] = []
without_homings (p ∷ ps) = if is_homing p.command then without_homings ps else p ∷ without_homings ps

-- a plan as it is followed by a client that is reported that the machine is homed, without its homing, or that it is not
abbrev pub followed : Bool → List Planned → List Planned
followed true ps = without_homings ps
followed false ps = ps

-- the lines of commands, each under the tag of its place, the first at this place
abbrev pub lines_from : ℕ → List Planned → List Line
lines_from place [] = []
lines_from place (p ∷ ps) = record { tag = tag_at place; command = p.command } ∷ lines_from (suc place) ps

-- bytes are the first lines of a plan, each whole with its CR LF
pub record AreFirstLines (written : List ℕ) (steps : List Planned) : Type 0 where
  pub lines : List Line
  pub more : List Line
  pub parts : lines ++ more ≡ lines_from 0 steps
  pub bytes : written ≡ command_bytes lines

-- ---- acts

-- what a command is planned for, if that is an act
abbrev pub act_in : Does → List Does
act_in Does.Nothing = []
act_in Does.AsksHomed = Does.AsksHomed ∷ []
act_in Does.Homes = Does.Homes ∷ []
act_in (Does.Moves p f) = Does.Moves p f ∷ []
act_in (Does.Changes n) = Does.Changes n ∷ []
act_in (Does.Frames f) = Does.Frames f ∷ []
act_in (Does.Touches t last) = Does.Touches t last ∷ []

-- the acts that planned commands do, in order
abbrev pub acts_planned : List Planned → List Does
acts_planned [] = []
acts_planned (p ∷ ps) = act_in p.does ++ acts_planned ps

-- an act is what a command is planned for; the question whether the machine is homed has either answer; a touch is made by a contact with
-- its target, direction, tool and frame, and any point
abbrev pub StandsFor : Act → Does → Type 0
StandsFor (act.HomedIs homed) Does.AsksHomed = Unit {0}
StandsFor act.Homed Does.Homes = Unit {0}
StandsFor (act.Moved p f) (Does.Moves q g) = (p ≡ q) × (f ≡ g)
StandsFor (act.Changed n) (Does.Changes m) = n ≡ m
StandsFor (act.Framed f) (Does.Frames g) = f ≡ g
StandsFor (act.Contact target dir tool frame point) (Does.Touches t last) = (target ≡ t.target) × (dir ≡ t.dir) × (tool ≡ t.tool)
    × (frame ≡ t.frame)
StandsFor _ _ = ⊥

-- acts are what is planned, one for one
abbrev pub AreActs : List Act → List Does → Type 0
AreActs [] [] = Unit {0}
AreActs (a ∷ acts) [] = ⊥
AreActs [] (d ∷ ds) = ⊥
AreActs (a ∷ acts) (d ∷ ds) = StandsFor a d × AreActs acts ds

-- acts are the first of those that are planned, one for one
abbrev pub AreFirstActs : List Act → List Does → Type 0
AreFirstActs [] ds = Unit {0}
AreFirstActs (a ∷ acts) [] = ⊥
AreFirstActs (a ∷ acts) (d ∷ ds) = StandsFor a d × AreFirstActs acts ds

-- the acts of a ledger, on whatever connection
abbrev pub acts_in : List (ℕ × Act) → List Act
acts_in [] = []
acts_in ((n, a) ∷ acts) = a ∷ acts_in acts

-- acts are the first of others
pub record AreFirstOf (acts others : List Act) : Type 0 where
  pub more : List Act
  pub parts : acts ++ more ≡ others

-- ---- a server that its machine has homed

-- no act is on a connection above this one
abbrev pub AreUpTo : ℕ → List (ℕ × Act) → Type 0
AreUpTo n [] = Unit {0}
AreUpTo n ((m, a) ∷ l) = (m ≤ n) × AreUpTo n l

-- a new client by whose number these connections were made, whatever is left on them, and a server that has left the last of them and keeps
-- what it keeps: its homing, its tool, and its acts
abbrev pub met : Meaning → ℕ → ServerEnd → List Link → World
met p window s links = record {
  client = record (new_client_end p [] window) { client = record (new_client p [] window) { last = s.server.last } };
  server = serving_left s;
  links = links;
  written = [];
}

-- the machine is homed, the server has left the last of these connections, and no act was done on a later one
pub record IsHomedOff (s : ServerEnd) (links : List Link) : Type 0 where
  pub homed : s.server.homed ≡ true
  pub made : length links ≡ s.server.last
  pub ledger : AreUpTo s.server.last s.server.ledger

-- those of planned commands that home the machine
abbrev pub homings_of : List Planned → List Planned
homings_of [] = []
homings_of (p ∷ ps) = if is_homing p.command then p ∷ homings_of ps else homings_of ps
