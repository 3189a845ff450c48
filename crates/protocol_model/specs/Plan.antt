-- The plan of a client: the commands of the I++ DME Interface version 1 that measure what is left of an ISO 22093 program, each with what
-- it means (this profile).
use Rattle.std.specs.Prelude.{ℕ, zero, suc, Bool, true, false, if◌then◌else◌, Option, Some, None, List, [], ◌∷◌, ◌++◌}
use Rattle.fixed_um.specs.Points.{point_opposite}
use Rattle.fixed_um.specs.declared.frames.Frame.{Frame}
use Rattle.fixed_um.specs.declared.frames.Frame.TheVariants.{Machine, Part}
use Rattle.dme_line.specs.declared.commands.Csy.TheVariants.{MachineCsy, PartCsy}
use Rattle.dme_line.specs.declared.commands.Command.{Command}
use Rattle.dme_line.specs.declared.commands.Command.TheVariants as command
use Rattle.dmis_program.specs.Meaning.{Meaning as Program, block_touches}
use Rattle.dmis_program.specs.declared.steps.Step.{Step}
use Rattle.dmis_program.specs.declared.steps.Step.TheVariants as step
use Rattle.protocol_model.specs.declared.plans.Does.{Does}
use Rattle.protocol_model.specs.declared.plans.Does.TheVariants.{Nothing, AsksHomed, Homes, Moves, Changes, Frames, Touches}
use Rattle.protocol_model.specs.declared.plans.Start.{Start}
use Rattle.protocol_model.specs.declared.plans.Start.TheVariants.{NewConnection, SameConnection}
use Rattle.protocol_model.specs.declared.plans.Planned.{Planned}

-- nothing is there
abbrev pub is_empty : {A : Type 0} → List A → Bool
is_empty [] = true
is_empty (x ∷ xs) = false

-- the tool that is selected after these steps: that of the last selection among them, or else the one before
abbrev pub tool_behind : Option (List ℕ) → List Step → Option (List ℕ)
tool_behind tool [] = tool
tool_behind tool (step.Goto p ∷ ss) = tool_behind tool ss
tool_behind tool (step.Begin l ∷ ss) = tool_behind tool ss
tool_behind tool (step.Touch t ∷ ss) = tool_behind tool ss
tool_behind tool (step.Tool n ∷ ss) = tool_behind (Some n) ss
tool_behind tool (step.Recall p ∷ ss) = tool_behind tool ss
tool_behind tool (step.End ∷ ss) = tool_behind tool ss

-- the frame that is selected after these steps
abbrev pub frame_behind : Frame → List Step → Frame
frame_behind frame [] = frame
frame_behind frame (step.Goto p ∷ ss) = frame_behind frame ss
frame_behind frame (step.Begin l ∷ ss) = frame_behind frame ss
frame_behind frame (step.Touch t ∷ ss) = frame_behind frame ss
frame_behind frame (step.Tool n ∷ ss) = frame_behind frame ss
frame_behind frame (step.Recall p ∷ ss) = frame_behind (Part p) ss
frame_behind frame (step.End ∷ ss) = frame_behind frame ss

-- the steps after the last touch of that many features, and those up to it
abbrev pub behind : ℕ → List Step → List Step
behind zero ss = ss
behind (suc k) [] = []
behind (suc k) (step.Goto p ∷ ss) = behind (suc k) ss
behind (suc k) (step.Begin l ∷ ss) = behind (suc k) ss
behind (suc k) (step.Touch t ∷ ss) = if is_empty (block_touches ss) then behind k ss else behind (suc k) ss
behind (suc k) (step.Tool n ∷ ss) = behind (suc k) ss
behind (suc k) (step.Recall p ∷ ss) = behind (suc k) ss
behind (suc k) (step.End ∷ ss) = behind (suc k) ss

-- the steps up to the last touch of that many features
abbrev pub up_to : ℕ → List Step → List Step
up_to zero ss = []
up_to (suc k) [] = []
up_to (suc k) (step.Goto p ∷ ss) = step.Goto p ∷ up_to (suc k) ss
up_to (suc k) (step.Begin l ∷ ss) = step.Begin l ∷ up_to (suc k) ss
up_to (suc k) (step.Touch t ∷ ss) = step.Touch t ∷ (if is_empty (block_touches ss) then up_to k ss else up_to (suc k) ss)
up_to (suc k) (step.Tool n ∷ ss) = step.Tool n ∷ up_to (suc k) ss
up_to (suc k) (step.Recall p ∷ ss) = step.Recall p ∷ up_to (suc k) ss
up_to (suc k) (step.End ∷ ss) = step.End ∷ up_to (suc k) ss

-- a command, and what it means
abbrev pub planned : Command → Does → Planned
planned c does = record { command = c; does = does }

-- the commands that select a frame
abbrev pub framing : Frame → List Planned
framing Machine = planned (command.SetCoordSystem MachineCsy) (Frames Machine) ∷ []
framing (Part p) = planned (command.SetCsyTransformation (point_opposite p)) Nothing
    ∷ planned (command.SetCoordSystem PartCsy) (Frames (Part p)) ∷ []

-- the command that changes to the selected tool, if one is selected
abbrev pub tooling : Option (List ℕ) → List Planned
tooling None = []
tooling (Some n) = planned (command.ChangeTool n) (Changes n) ∷ []

-- the commands of steps, the first of them in this frame
abbrev pub stepping : Frame → List Step → List Planned
stepping frame [] = []
stepping frame (step.Goto p ∷ ss) = planned (command.GoTo p) (Moves p frame) ∷ stepping frame ss
stepping frame (step.Begin l ∷ ss) = stepping frame ss
stepping frame (step.Touch t ∷ ss) = planned (command.PtMeas t.target t.dir) (Touches t (is_empty (block_touches ss))) ∷ stepping frame ss
stepping frame (step.Tool n ∷ ss) = planned (command.ChangeTool n) (Changes n) ∷ stepping frame ss
stepping frame (step.Recall p ∷ ss) = framing (Part p) ++ stepping (Part p) ss
stepping frame (step.End ∷ ss) = stepping frame ss

-- what is selected again and then measured: the tool and the frame before the steps, and the steps
abbrev pub measuring : Option (List ℕ) → Frame → List Step → List Planned
measuring tool frame ss = tooling tool ++ (framing frame ++ (stepping frame ss ++ planned command.EndSession Nothing ∷ []))

-- the preamble of every plan
abbrev pub clearing : List Planned → List Planned
clearing ps = planned command.ClearAllErrors Nothing ∷ planned command.IsHomed AsksHomed ∷ planned command.Home Homes
    ∷ planned command.OnPtMeasReport Nothing ∷ ps

-- a session is begun on a new connection, and continues on the same
abbrev pub starting : Start → List Planned → List Planned
starting NewConnection ps = planned command.StartSession Nothing ∷ ps
starting SameConnection ps = ps

-- the plan for a program of which that many features are completed
abbrev pub plan : Program → ℕ → Start → List Planned
plan p k start =
    starting start (clearing (measuring (tool_behind None (up_to k p.steps)) (frame_behind Machine (up_to k p.steps)) (behind k p.steps)))
