-- What holds of a client at any time, whatever its peer sends (this profile).
use Rattle.std.specs.Prelude.{◌≡◌, ℕ, ◌≤◌, Bool, true, false, List, []}
use Rattle.contact_ledger.specs.declared.features.Feature.{Feature}
use Rattle.dmis_program.specs.Meaning.{Meaning}
use Rattle.dmis_program.specs.Programs.{IsProgram}
use Rattle.line_framing.specs.Framing.{no_bytes}
use Rattle.protocol_model.specs.Ends.{ClientEnd, new_client_end}
use Rattle.protocol_model.specs.declared.states.State.{State}
use Rattle.client_core.specs.Calls.{Call, behind_calls}
use Rattle.client_core.specs.Clients.{are_ours, window_most}

-- a list of calls leads to it from a client that was never on a connection, with a program, the features of it that were kept, and a window
-- from 1 to 16
pub record IsReached (e : ClientEnd) : Type 0 where
  pub program : Meaning
  pub is_program : IsProgram program
  pub kept : List Feature
  pub ours : are_ours program.features kept ≡ true
  pub window : ℕ
  pub some : 1 ≤ window
  pub few : window ≤ window_most
  pub calls : List Call
  pub reached : e ≡ behind_calls calls (new_client_end program kept window)

-- a client that is Apart is on no connection; in each other state it is on one, but Done may be either
abbrev pub FitsState : State → Bool → Type 0
FitsState State.Apart on = on ≡ false
FitsState State.Running on = on ≡ true
FitsState State.Failing on = on ≡ true
FitsState State.Aborting on = on ≡ true
FitsState State.Halted on = on ≡ true
FitsState State.Done on = Unit {0}
FitsState State.Faulted on = on ≡ true

-- no byte that was fed or that is to be sent, and no point of an unfinished feature
pub record IsQuiet (e : ClientEnd) : Type 0 where
  pub input : e.input ≡ no_bytes
  pub out : e.out ≡ []
  pub points : e.client.table.tally.points ≡ []
