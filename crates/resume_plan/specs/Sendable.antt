-- Commands of a plan that can be written.
use Rattle.std.specs.Prelude.{◌≡◌, false}
use Rattle.dme_line.specs.Kinds.{kind_of, is_event_kind}
use Rattle.dme_line.specs.Written.{HasVolumeLengths}
use Rattle.protocol_model.specs.declared.plans.Planned.{Planned}

-- the command is written under a standard tag, and the lengths of a transformation are within the volume limit (I++ DME Interface version
-- 1, this profile)
pub record IsSendable (p : Planned) : Type 0 where
  pub standard : is_event_kind (kind_of p.command) ≡ false
  pub lengths : HasVolumeLengths p.command
