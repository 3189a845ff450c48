-- What a program measures, plainly: the machine's answers to its touches, numbered one after another (this profile). No command, no
-- connection and no state is in it.
use Rattle.std.specs.Prelude.{ℕ, suc, ◌+◌, List, [], ◌∷◌, length}
use Rattle.fixed_um.specs.Points.{zero_point, point_sum, point_difference}
use Rattle.fixed_um.specs.declared.lengths.Point.{Point}
use Rattle.dmis_program.specs.declared.features.Touch.{Touch}
use Rattle.dmis_program.specs.declared.features.Wanted.{Wanted}
use Rattle.contact_ledger.specs.declared.features.Feature.{Feature}
use Rattle.protocol_model.specs.Server.{offset}
use Rattle.protocol_model.specs.declared.machine.Job.{Job}
use Rattle.protocol_model.specs.declared.machine.Job.TheVariants as job
use Rattle.protocol_model.specs.declared.machine.Outcome.{Outcome}
use Rattle.protocol_model.specs.declared.machine.Outcome.TheVariants as outcome

-- a feature as it was measured: its label and its points
pub record MeasuredFeature : Type 0 where
  pub label : List ℕ
  pub points : List Point

-- the job of a touch: its target in machine axes, and its direction
abbrev pub touch_job : Touch → Job
touch_job t = job.Touch (point_sum t.target (offset t.frame)) t.dir

-- where a surface was met; the zero point if none was met
abbrev pub met_at : Outcome → Point
met_at (outcome.Touched at) = at
met_at _ = zero_point

-- the point of a touch that has this number: where the machine meets the surface, as seen from the frame's zero point
abbrev pub plain_point : (Job → ℕ → Outcome) → ℕ → Touch → Point
plain_point answer n t = point_difference (met_at (answer (touch_job t) n)) (offset t.frame)

-- the points of touches, numbered one after another from this number on
abbrev pub plain_points : (Job → ℕ → Outcome) → ℕ → List Touch → List Point
plain_points answer n [] = []
plain_points answer n (t ∷ ts) = plain_point answer n t ∷ plain_points answer (suc n) ts

-- the features that are wanted, each with its label; their touches are numbered through all features, from this number on
abbrev pub plain_execution : (Job → ℕ → Outcome) → ℕ → List Wanted → List MeasuredFeature
plain_execution answer n [] = []
plain_execution answer n (w ∷ ws) =
    record { label = w.label; points = plain_points answer n w.touches } ∷ plain_execution answer (n + length w.touches) ws

-- features that are held, as they were measured
abbrev pub as_measured : List Feature → List MeasuredFeature
as_measured [] = []
as_measured (f ∷ fs) = record { label = f.label; points = f.points } ∷ as_measured fs
