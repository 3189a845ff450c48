-- Examples of plain execution, and of what it asks of the rack and the machine (this profile).
-- No theorem cites these definitions: they show what the others give on small programs.
use Rattle.std.specs.Prelude.{ℕ, ◌==◌, if◌then◌else◌, pos, true, false, List, [], ◌∷◌}
use Rattle.std.specs.List.{slice_index_or}
use Rattle.fixed_um.specs.Points.{zero_point, point_sum}
use Rattle.fixed_um.specs.declared.lengths.Point.{Point}
use Rattle.fixed_um.specs.declared.frames.Frame.TheVariants as frame
use Rattle.dme_line.specs.declared.commands.Command.TheVariants as command
use Rattle.dmis_program.specs.Meaning.{touch_with}
use Rattle.dmis_program.specs.declared.features.Touch.{Touch}
use Rattle.protocol_model.specs.Plan.{planned}
use Rattle.protocol_model.specs.PlainExecution.{MeasuredFeature}
use Rattle.protocol_model.specs.Examples.{at, from_above, tool}
use Rattle.protocol_model.specs.Scripts.{simulated}
use Rattle.protocol_model.specs.declared.machine.Job.{Job}
use Rattle.protocol_model.specs.declared.machine.Outcome.{Outcome}
use Rattle.protocol_model.specs.declared.plans.Does.{Does}
use Rattle.protocol_model.specs.declared.plans.Planned.{Planned}

-- the simulated machine
abbrev pub answering : Job → ℕ → Outcome
answering j n = simulated n j

-- a machine that meets surfaces next to its targets by these deviations, each at its number
abbrev pub deviating : List Point → Job → ℕ → Outcome
deviating ds (Job.Touch p d) n = Outcome.Touched (point_sum p (slice_index_or ds n zero_point))
deviating ds j n = Outcome.Done

-- a machine that misses the touch of one number
abbrev pub missing : ℕ → Job → ℕ → Outcome
missing k (Job.Touch p d) n = if n == k then Outcome.Missed else Outcome.Touched p
missing k j n = Outcome.Done

-- a machine that is done with all, touches too
abbrev pub always_done : Job → ℕ → Outcome
always_done j n = Outcome.Done

-- a machine that homes and changes its tool, and does nothing else
abbrev pub unmoved : Job → ℕ → Outcome
unmoved (Job.Move p) n = Outcome.Fault
unmoved (Job.Touch p d) n = Outcome.Touched p
unmoved j n = Outcome.Done

-- a feature as it was measured
abbrev pub measured_so : List ℕ → List Point → MeasuredFeature
measured_so label points = record { label = label; points = points }

-- a touch in a part's frame
abbrev pub touch_there : Point → Touch
touch_there offset = touch_with tool (frame.Part offset) (at (pos 30000) (pos 0) (pos 0)) from_above

-- two touches, one after the other, and a move between them
abbrev pub two_touches : Point → List Planned
two_touches offset =
    planned (command.PtMeas (at (pos 30000) (pos 0) (pos 0)) from_above) (Does.Touches (touch_there offset) false)
    ∷ planned (command.GoTo (at (pos 1) (pos 2) (pos 3))) (Does.Moves (at (pos 1) (pos 2) (pos 3)) frame.Machine)
    ∷ planned (command.PtMeas (at (pos 30000) (pos 0) (pos 0)) from_above) (Does.Touches (touch_there offset) true)
    ∷ []

-- a change to this tool
abbrev pub change_to : List ℕ → List Planned
change_to name = planned (command.ChangeTool name) (Does.Changes name) ∷ []
