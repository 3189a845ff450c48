-- Definitions that only proofs use.
use Rattle.resume_plan.proofs.Names.{◌≡◌, drop, feature_touches, IsSendable, List, Meaning as Program, plan, Planned, Start, touches_of, ℕ}
use Rattle.std.specs.Prelude.{All}

-- these commands are the plan, with what is promised of a plan
pub record IsPlan (program : Program) (completed : ℕ) (start : Start) (commands : List Planned) : Type 0 where
  pub commands_of : commands ≡ plan program completed start
  pub sendable : All IsSendable commands
  pub touches : touches_of commands ≡ feature_touches (drop completed program.features)
