-- What two recordings of a connection report, between which there is no order (this profile).
use Rattle.std.specs.Prelude.{◌≡◌, ℕ, List, Option}
use Rattle.line_framing.specs.Stream.{IsStream}
use Rattle.line_framing.specs.declared.faults.FramingFault.{FramingFault}
use Rattle.witness.specs.Watching.{ledger}
use Rattle.witness.specs.declared.lines.Reported.{Reported}

-- it is what their whole lines report, with all those of the client read first
pub record AreReportedBy (up down : List ℕ) (reported : List Reported) : Type 0 where
  pub up_lines : List (List ℕ)
  pub up_rest : List ℕ
  pub up_fault : Option FramingFault
  pub up_stream : IsStream up up_lines up_rest up_fault
  pub down_lines : List (List ℕ)
  pub down_rest : List ℕ
  pub down_fault : Option FramingFault
  pub down_stream : IsStream down down_lines down_rest down_fault
  pub reported_is : reported ≡ (ledger up_lines down_lines).reported
