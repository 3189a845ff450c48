-- What a plan measures, according to its commands alone, read in order as a machine reads them (I++ DME Interface version 1; the order
-- of a plan: this profile).
use Rattle.std.specs.Prelude.{◌≡◌, ℕ, Bool, true, false, Option, Some, None, List, [], ◌∷◌, ◌++◌}
use Rattle.std.specs.List.{list_all, flat_map}
use Rattle.fixed_um.specs.Points.{point_opposite}
use Rattle.fixed_um.specs.Shapes.{Direction}
use Rattle.fixed_um.specs.declared.lengths.Point.{Point}
use Rattle.fixed_um.specs.declared.frames.Frame.{Frame}
use Rattle.fixed_um.specs.declared.frames.Frame.TheVariants.{Machine, Part}
use Rattle.dme_line.specs.Written.{IsWritable, HasVolumeLengths}
use Rattle.dme_line.specs.declared.tags.Tag.{Tag}
use Rattle.dme_line.specs.declared.commands.Csy.{Csy}
use Rattle.dme_line.specs.declared.commands.Csy.TheVariants.{MachineCsy, PartCsy}
use Rattle.dme_line.specs.declared.commands.Command.{Command}
use Rattle.dme_line.specs.declared.commands.Command.TheVariants as command
use Rattle.dmis_program.specs.declared.features.Touch.{Touch}
use Rattle.dmis_program.specs.declared.features.Wanted.{Wanted}
use Rattle.dmis_program.specs.declared.steps.Step.{Step}
use Rattle.dmis_program.specs.declared.steps.Step.TheVariants as step
use Rattle.protocol_model.specs.declared.plans.Does.{Does}
use Rattle.protocol_model.specs.declared.plans.Start.{Start}
use Rattle.protocol_model.specs.declared.plans.Start.TheVariants.{NewConnection, SameConnection}
use Rattle.protocol_model.specs.declared.plans.Planned.{Planned}

-- ---- the touches of a plan

-- the touch that a command means, if it means one
abbrev pub touch_of : Does → List Touch
touch_of (Does.Touches t last) = t ∷ []
touch_of _ = []

-- the touches that planned commands mean, in order
abbrev pub touches_of : List Planned → List Touch
touches_of [] = []
touches_of (p ∷ ps) = touch_of p.does ++ touches_of ps

-- whether a touch is planned as the last of its feature
abbrev pub end_of : Does → List Bool
end_of (Does.Touches t last) = last ∷ []
end_of _ = []

-- likewise for each planned touch, in order
abbrev pub ends_of : List Planned → List Bool
ends_of [] = []
ends_of (p ∷ ps) = end_of p.does ++ ends_of ps

-- of the touches of one feature the last alone ends it
abbrev pub touch_ends : List Touch → List Bool
touch_ends [] = []
touch_ends (t ∷ []) = true ∷ []
touch_ends (t ∷ u ∷ ts) = false ∷ touch_ends (u ∷ ts)

-- likewise for the touches of features, one feature after another
abbrev pub feature_ends : List Wanted → List Bool
feature_ends features = flat_map (λ (w : Wanted). touch_ends w.touches) features

-- ---- commands as they are read

-- the commands of planned ones, in order
abbrev pub commands_of : List Planned → List Command
commands_of [] = []
commands_of (p ∷ ps) = p.command ∷ commands_of ps

-- what commands have selected: the tool, the stored offset and the frame, each perhaps not yet
pub record Selection : Type 0 where
  pub tool : Option (List ℕ)
  pub stored : Option Point
  pub frame : Option Frame

-- before the first command nothing is known to be selected
abbrev pub nothing_selected : Selection
nothing_selected = record { tool = None; stored = None; frame = None }

-- the frame of a coordinate system: the machine's, or that of the part at the stored offset
abbrev pub selected_frame : Csy → Option Point → Option Frame
selected_frame MachineCsy stored = Some Machine
selected_frame PartCsy None = None
selected_frame PartCsy (Some offset) = Some (Part offset)

-- what is selected after a command; the offset of a transformation is stored with its signs turned
abbrev pub selected_by : Selection → Command → Selection
selected_by s (command.ChangeTool n) = record s { tool = Some n }
selected_by s (command.SetCsyTransformation p) = record s { stored = Some (point_opposite p) }
selected_by s (command.SetCoordSystem system) = record s { frame = selected_frame system s.stored }
selected_by s _ = s

-- a touch under this tool and in this frame; none if either is not known
abbrev pub read_touch : Point → Option Direction → Bool → Option (List ℕ) → Option Frame → Option Does
read_touch p d last (Some tool) (Some frame) = Some (Does.Touches (record { target = p; dir = d; tool = tool; frame = frame }) last)
read_touch p d last _ _ = None

-- a move in this frame; none if it is not known
abbrev pub read_move : Point → Option Frame → Option Does
read_move p (Some frame) = Some (Does.Moves p frame)
read_move p None = None

-- the selection of this frame; none if it is not known
abbrev pub read_frame : Option Frame → Option Does
read_frame (Some frame) = Some (Does.Frames frame)
read_frame None = None

-- what a command does under this selection; whether a touch is the last of its feature is not part of its command, and is given
abbrev pub read_as : Selection → Bool → Command → Option Does
read_as s last command.StartSession = Some Does.Nothing
read_as s last command.EndSession = Some Does.Nothing
read_as s last command.ClearAllErrors = Some Does.Nothing
read_as s last command.IsHomed = Some Does.AsksHomed
read_as s last command.Home = Some Does.Homes
read_as s last command.OnPtMeasReport = Some Does.Nothing
read_as s last (command.GoTo p) = read_move p s.frame
read_as s last (command.PtMeas p d) = read_touch p d last s.tool s.frame
read_as s last (command.ChangeTool n) = Some (Does.Changes n)
read_as s last (command.SetCsyTransformation p) = Some Does.Nothing
read_as s last (command.SetCoordSystem system) = read_frame (selected_frame system s.stored)
read_as s last command.AbortE = None

-- whether something is planned as the last touch of its feature
abbrev pub is_last : Does → Bool
is_last (Does.Touches t last) = last
is_last _ = false

-- each command, read in its place, does what it is planned for: a touch has its target, direction, tool and frame, a move its target and
-- frame
abbrev pub ReadAsPlanned : Selection → List Planned → Type 0
ReadAsPlanned s [] = Unit {0}
ReadAsPlanned s (p ∷ ps) = (read_as s (is_last p.does) p.command ≡ Some p.does) × ReadAsPlanned (selected_by s p.command) ps

-- the touch that was read, if any
abbrev pub touch_made : Option Does → Option Touch
touch_made (Some (Does.Touches t last)) = Some t
touch_made _ = None

-- the touch that a command makes where this is selected, if it makes one; None if its tool or its frame is not known
abbrev pub touches_made_by : Selection → Command → List (Option Touch)
touches_made_by s (command.PtMeas p d) = touch_made (read_as s false (command.PtMeas p d)) ∷ []
touches_made_by s _ = []

-- the touches that commands make, one after another, from what is selected before them
abbrev pub touches_made : Selection → List Command → List (Option Touch)
touches_made s [] = []
touches_made s (c ∷ cs) = touches_made_by s c ++ touches_made (selected_by s c) cs

-- touches of which each is known
abbrev pub all_known : List Touch → List (Option Touch)
all_known [] = []
all_known (t ∷ ts) = Some t ∷ all_known ts

-- ---- the order of a plan

-- a session is begun on a new connection alone; then errors are cleared, the machine is asked whether it is homed and goes home, and points
-- are to be reported
abbrev pub opening : Start → List Command
opening NewConnection = command.StartSession ∷ command.ClearAllErrors ∷ command.IsHomed ∷ command.Home ∷ command.OnPtMeasReport ∷ []
opening SameConnection = command.ClearAllErrors ∷ command.IsHomed ∷ command.Home ∷ command.OnPtMeasReport ∷ []

-- a command that measures: it moves, touches, changes the tool, stores an offset or selects a frame
abbrev pub is_measuring : Command → Bool
is_measuring (command.GoTo p) = true
is_measuring (command.PtMeas p d) = true
is_measuring (command.ChangeTool n) = true
is_measuring (command.SetCsyTransformation p) = true
is_measuring (command.SetCoordSystem system) = true
is_measuring _ = false

-- commands in the order of a plan: its opening, commands that measure, and the end of the session; so errors are cleared once, at their
-- place
pub record IsInOrder (start : Start) (commands : List Command) : Type 0 where
  pub measuring : List Command
  pub parts : commands ≡ opening start ++ (measuring ++ command.EndSession ∷ [])
  pub measures : list_all is_measuring measuring ≡ true

-- the commands of a step of a program: a part's frame is stored as the machine's zero point in it, and selected
abbrev pub step_commands : Step → List Command
step_commands (step.Goto p) = command.GoTo p ∷ []
step_commands (step.Begin label) = []
step_commands (step.Touch t) = command.PtMeas t.target t.dir ∷ []
step_commands (step.Tool n) = command.ChangeTool n ∷ []
step_commands (step.Recall offset) = command.SetCsyTransformation (point_opposite offset) ∷ command.SetCoordSystem PartCsy ∷ []
step_commands step.End = []

-- the commands of a whole program: the opening, the machine's frame, those of its steps in order, and the end of the session
abbrev pub whole_commands : Start → List Step → List Command
whole_commands start steps = opening start ++ command.SetCoordSystem MachineCsy ∷ (flat_map step_commands steps ++ command.EndSession ∷ [])

-- ---- lines

-- each planned command can be written in a line under this tag, the lengths of a transformation within the volume
abbrev pub CanBeWritten : Tag → List Planned → Type 0
CanBeWritten t [] = Unit {0}
CanBeWritten t (p ∷ ps) = IsWritable t p.command × HasVolumeLengths p.command × CanBeWritten t ps
