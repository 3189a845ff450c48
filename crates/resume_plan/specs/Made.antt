-- A plan that is made step by step.
use Rattle.std.specs.Prelude.{List, [], ◌∷◌, ◌++◌}
use Rattle.fixed_um.specs.declared.frames.Frame.{Frame}
use Rattle.dme_line.specs.declared.commands.Command.TheVariants as command
use Rattle.dmis_program.specs.declared.steps.Step.{Step}
use Rattle.protocol_model.specs.declared.plans.Does.TheVariants.{Nothing}
use Rattle.protocol_model.specs.declared.plans.Planned.{Planned}
use Rattle.protocol_model.specs.Plan.{planned, stepping}

-- commands, and then those of the steps that are left, the first of them in this frame, and the end of the session (this profile)
abbrev pub planned_with : List Planned → Frame → List Step → List Planned
planned_with commands frame steps = commands ++ (stepping frame steps ++ planned command.EndSession Nothing ∷ [])
