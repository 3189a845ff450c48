-- What is asked of the contacts that complete a feature, one act at a time. No public clause cites this.
use Rattle.std.specs.Prelude.{◌≡◌, ℕ, List, length, slice_get, Some}
use Rattle.fixed_um.specs.declared.lengths.Point.{Point}
use Rattle.contact_ledger.specs.declared.acts.Act.{Act}
use Rattle.contact_ledger.specs.declared.acts.Act.TheVariants as act
use Rattle.dmis_program.specs.declared.features.Touch.{Touch}
use Rattle.dmis_program.specs.declared.features.Wanted.{Wanted}
use Rattle.protocol_model.specs.Claims.{IsServed}
use Rattle.record_text.specs.Records.{Kept, IsLastRun}

-- an act is a contact that serves a touch on connection n, and reported this point
abbrev pub IsServedBy : ℕ → Touch → Point → ℕ → Act → Type 0
IsServedBy n t p on (act.Contact target dir tool frame point) =
    IsServed n t p (record { connection = on; target = target; dir = dir; tool = tool; frame = frame; point = point })
IsServedBy n t p on (act.HomedIs homed) = ⊥
IsServedBy n t p on act.Homed = ⊥
IsServedBy n t p on (act.Moved target frame) = ⊥
IsServedBy n t p on (act.Changed tool) = ⊥
IsServedBy n t p on (act.Framed frame) = ⊥

-- COMPLETED can follow, and completes this wanted feature with these points
pub record CanComplete (asked : List Wanted) (old : Kept) (n : ℕ) (label : List ℕ) (wanted : Wanted) (points : List Point) : Type 0 where
  pub next : slice_get asked (length old.features) ≡ Some wanted
  pub label_is : label ≡ wanted.label
  pub same : n ≡ old.last
  pub run : IsLastRun old wanted n points
