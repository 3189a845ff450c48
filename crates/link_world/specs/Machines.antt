-- How machines end what they are asked to do (this profile).
use Rattle.std.specs.Prelude.{ℕ, Bool, true, false, if◌then◌else◌, List}
use Rattle.fixed_um.specs.Points.{point_sum}
use Rattle.fixed_um.specs.declared.lengths.Point.{Point}
use Rattle.tool_rack.specs.Setups.{shift_at}
use Rattle.protocol_model.specs.Server.{in_volume}
use Rattle.protocol_model.specs.declared.machine.Job.{Job}
use Rattle.protocol_model.specs.declared.machine.Job.TheVariants as job
use Rattle.protocol_model.specs.declared.machine.Outcome.{Outcome}
use Rattle.protocol_model.specs.declared.machine.Outcome.TheVariants as outcome

-- an outcome fits a job: a touch is touched within the machine's volume, or missed; everything else is done; each may end in a fault
abbrev pub fits_job : Job → Outcome → Bool
fits_job job outcome.Fault = true
fits_job (job.Touch p d) (outcome.Touched at) = in_volume at
fits_job (job.Touch p d) outcome.Missed = true
fits_job (job.Touch p d) outcome.Done = false
fits_job job outcome.Done = true
fits_job job o = false

-- a touch within the volume meets a surface; any other meets none
abbrev pub met : Point → Outcome
met p = if in_volume p then outcome.Touched p else outcome.Missed

-- how the simulated machine ends a job: a touch meets a surface next to the point, shifted by the shift of its number
abbrev pub simulated : List Point → Job → ℕ → Outcome
simulated shifts (job.Touch p d) n = met (point_sum p (shift_at shifts n))
simulated shifts j n = outcome.Done
