-- How a link is brought to its end, wherever it was broken: both ends leave, the client connects, the server takes that connection, and
-- quiet rounds follow; what the rack and the machine must ensure, and what is measured then (this profile).
use Rattle.std.specs.Prelude.{◌≡◌, ◌≢◌, ℕ, suc, ◌<◌, true, List, [], ◌∷◌, ◌++◌, length, drop, bytes_eq}
use Rattle.std.specs.List.{list_any}
use Rattle.fixed_um.specs.Points.{point_sum}
use Rattle.fixed_um.specs.declared.frames.Frame.{Frame}
use Rattle.fixed_um.specs.declared.frames.Frame.TheVariants.{Part}
use Rattle.dmis_program.specs.declared.steps.Step.{Step}
use Rattle.dmis_program.specs.declared.steps.Step.TheVariants as step
use Rattle.contact_ledger.specs.Ledgers.{connection_most, contact_count}
use Rattle.contact_ledger.specs.declared.features.Feature.{Feature}
use Rattle.protocol_model.specs.Plan.{plan}
use Rattle.protocol_model.specs.PlainExecution.{touch_job, plain_execution, as_measured}
use Rattle.protocol_model.specs.Server.{in_volume, offset}
use Rattle.protocol_model.specs.World.{World, run_of}
use Rattle.protocol_model.specs.declared.events.Event.{Event}
use Rattle.protocol_model.specs.declared.events.Event.TheVariants.{Connect, Accept, ClientLeaves, ServerLeaves}
use Rattle.protocol_model.specs.declared.machine.Job.{Job}
use Rattle.protocol_model.specs.declared.machine.Job.TheVariants as job
use Rattle.protocol_model.specs.declared.machine.Outcome.{Outcome}
use Rattle.protocol_model.specs.declared.machine.Outcome.TheVariants as outcome
use Rattle.protocol_model.specs.declared.plans.Does.{Does}
use Rattle.protocol_model.specs.declared.plans.Planned.{Planned}
use Rattle.protocol_model.specs.declared.plans.Start.{Start}
use Rattle.protocol_model.specs.declared.states.State.{State}

-- something is left to measure, and a connection to do it on
pub record CanFinish (w : World) : Type 0 where
  pub undone : w.client.client.state ≢ State.Done
  pub connections : w.client.client.last < connection_most

-- both ends leave, each if it is on a connection, the client makes the next one, and the server takes it
abbrev pub rejoining : World → List Event
rejoining w = ClientLeaves ∷ ServerLeaves ∷ Connect ∷ Accept (suc w.client.client.last) ∷ []

-- the world after that
abbrev pub rejoined : World → World
rejoined w = run_of (rejoining w) w

-- the plan for what is left to measure
abbrev pub plan_left : World → List Planned
plan_left w = plan w.client.client.program (length w.client.client.table.tally.features) Start.NewConnection

-- ---- what the rack and the machine must ensure for a plan

-- a tool is in the rack; the target of a move or a touch, in machine axes, lies in the volume
abbrev pub IsInReach : List (List ℕ) → Does → Type 0
IsInReach rack (Does.Changes n) = list_any (λ m. bytes_eq m n) rack ≡ true
IsInReach rack (Does.Moves p f) = in_volume (point_sum p (offset f)) ≡ true
IsInReach rack (Does.Touches t last) = in_volume (point_sum t.target (offset t.frame)) ≡ true
IsInReach rack Does.Nothing = Unit {0}
IsInReach rack Does.AsksHomed = Unit {0}
IsInReach rack Does.Homes = Unit {0}
IsInReach rack (Does.Frames f) = Unit {0}

-- each command of a plan is in reach
abbrev pub AreInReach : List (List ℕ) → List Planned → Type 0
AreInReach rack [] = Unit {0}
AreInReach rack (p ∷ ps) = IsInReach rack p.does × AreInReach rack ps

-- likewise for the steps of a program, the first of them in this frame: what an operator can check before anything runs
abbrev pub StepsInReach : List (List ℕ) → Frame → List Step → Type 0
StepsInReach rack f [] = Unit {0}
StepsInReach rack f (step.Goto p ∷ ss) = IsInReach rack (Does.Moves p f) × StepsInReach rack f ss
StepsInReach rack f (step.Begin l ∷ ss) = StepsInReach rack f ss
StepsInReach rack f (step.Touch t ∷ ss) = IsInReach rack (Does.Touches t true) × StepsInReach rack f ss
StepsInReach rack f (step.Tool n ∷ ss) = IsInReach rack (Does.Changes n) × StepsInReach rack f ss
StepsInReach rack f (step.Recall p ∷ ss) = StepsInReach rack (Part p) ss
StepsInReach rack f (step.End ∷ ss) = StepsInReach rack f ss

-- a surface was met in the volume
abbrev pub IsTouched : Outcome → Type 0
IsTouched (outcome.Touched at) = in_volume at ≡ true
IsTouched outcome.Done = ⊥
IsTouched outcome.Missed = ⊥
IsTouched outcome.Fault = ⊥

-- the machine does what a command asks of it where the next contact has this number: it goes home, moves and changes the tool, and a touch
-- meets a surface
abbrev pub IsObeyed : (Job → ℕ → Outcome) → ℕ → Does → Type 0
IsObeyed answer n Does.Homes = answer job.Home n ≡ outcome.Done
IsObeyed answer n (Does.Moves p f) = answer (job.Move (point_sum p (offset f))) n ≡ outcome.Done
IsObeyed answer n (Does.Changes name) = answer (job.Change name) n ≡ outcome.Done
IsObeyed answer n (Does.Touches t last) = IsTouched (answer (touch_job t) n)
IsObeyed answer n Does.Nothing = Unit {0}
IsObeyed answer n Does.AsksHomed = Unit {0}
IsObeyed answer n (Does.Frames f) = Unit {0}

-- the number of the next contact after a command that is done
abbrev pub number_behind : ℕ → Does → ℕ
number_behind n (Does.Touches t last) = suc n
number_behind n _ = n

-- the machine does what each command of a plan asks of it, its touches numbered from here on
abbrev pub AreObeyed : (Job → ℕ → Outcome) → ℕ → List Planned → Type 0
AreObeyed answer n [] = Unit {0}
AreObeyed answer n (p ∷ ps) = IsObeyed answer n p.does × AreObeyed answer (number_behind n p.does) ps

-- the rack of a world and a machine give what the plan for what is left needs
pub record CanMeasure (answer : Job → ℕ → Outcome) (w : World) : Type 0 where
  pub reach : AreInReach w.server.server.rack (plan_left w)
  pub obeys : AreObeyed answer (contact_count w.server.server.ledger) (plan_left w)

-- ---- what is measured

-- the features that were held before are the first of those held now, and the others are what the program plainly measures, the touches
-- numbered from the count of the contacts before
pub record HasMeasured (answer : Job → ℕ → Outcome) (before now : World) : Type 0 where
  pub more : List Feature
  pub whole : now.client.client.table.tally.features ≡ before.client.client.table.tally.features ++ more
  pub plain : as_measured more ≡ plain_execution answer (contact_count before.server.server.ledger)
      (drop (length before.client.client.table.tally.features) before.client.client.program.features)
