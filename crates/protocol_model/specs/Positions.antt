-- Where a plan continues in the steps of a program: after the last touch of its last completed
-- feature (this profile).
use Rattle.std.specs.Prelude.{◌≡◌, ℕ, Option, Some, None, List, [], ◌∷◌, ◌++◌}
use Rattle.std.specs.List.{flat_map}
use Rattle.fixed_um.specs.declared.frames.Frame.{Frame}
use Rattle.fixed_um.specs.declared.frames.Frame.TheVariants as frame
use Rattle.dme_line.specs.declared.commands.Csy.TheVariants.{MachineCsy}
use Rattle.dme_line.specs.declared.commands.Command.{Command}
use Rattle.dme_line.specs.declared.commands.Command.TheVariants as command
use Rattle.dmis_program.specs.declared.features.Touch.{Touch}
use Rattle.dmis_program.specs.declared.steps.Step.{Step}
use Rattle.dmis_program.specs.declared.steps.Step.TheVariants as step
use Rattle.protocol_model.specs.Plan.{tool_behind, frame_behind}
use Rattle.protocol_model.specs.PlanReading.{opening, step_commands}
use Rattle.protocol_model.specs.declared.plans.Start.{Start}

-- the last of these steps is a touch
pub record EndInTouch (steps : List Step) : Type 0 where
  pub before : List Step
  pub touch : Touch
  pub parts : steps ≡ before ++ step.Touch touch ∷ []

-- the command that selects a tool, if one is selected
abbrev pub tool_commands : Option (List ℕ) → List Command
tool_commands None = []
tool_commands (Some name) = command.ChangeTool name ∷ []

-- the commands that select a frame: the machine's, or one that was recalled
abbrev pub frame_commands : Frame → List Command
frame_commands frame.Machine = command.SetCoordSystem MachineCsy ∷ []
frame_commands (frame.Part offset) = step_commands (step.Recall offset)

-- the commands of a plan where these steps are passed and those are left: the opening, what is
-- selected after the steps that are passed, the commands of those that are left, in order, and the
-- end of the session
abbrev pub commands_from : Start → List Step → List Step → List Command
commands_from start passed left =
    opening start
    ++ (tool_commands (tool_behind None passed)
    ++ (frame_commands (frame_behind frame.Machine passed)
    ++ (flat_map step_commands left ++ command.EndSession ∷ [])))
