-- What holds of a client at any time, whatever its peer sends (this profile).
use Rattle.std.specs.Prelude.{◌≤◌, List, All, length, Option, IsSome}
use Rattle.dmis_program.specs.declared.features.Wanted.{Wanted}
use Rattle.protocol_model.specs.declared.states.Cause.{Cause}
use Rattle.protocol_model.specs.declared.states.State.{State}
use Rattle.resume_plan.specs.Sendable.{IsSendable}
use Rattle.client_core.specs.declared.progress.Progress.{Progress}

-- a Faulted client has a cause
abbrev pub HasCause : State → Option Cause → Type 0
HasCause State.Faulted cause = IsSome cause
HasCause _ cause = Unit {0}

-- no more commands are sent, passed over or counted than are planned, each can be written, and the features are no more than the wanted
-- ones
pub record IsKept (progress : Progress) (wanted : List Wanted) (state : State) (cause : Option Cause) : Type 0 where
  pub unsent_within : progress.unsent ≤ length progress.plan.items
  pub todo_within : progress.todo ≤ length progress.plan.items
  pub completed_within : progress.completed ≤ progress.todo
  pub sendable : All IsSendable progress.plan.items
  pub features_within : length progress.features ≤ length wanted
  pub has_cause : HasCause state cause
