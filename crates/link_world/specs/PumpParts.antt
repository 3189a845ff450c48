-- What calls state of the parts of a turn (this profile). A budget is how many steps may still be made.
use Rattle.std.specs.Prelude.{◌≡◌, ℕ, ◌+◌, ◌*◌, ◌<◌, ◌≤◌, ⊤, Option, List, [], ◌++◌, length, take}
use Rattle.std.specs.Io.KnownBytes.{Appends, Consumes, IsAtEnd}
use Rattle.protocol_model.specs.Ends.{ClientEnd, end_fed}
use Rattle.client_core.specs.declared.faults.ClientFault.{ClientFault}
use Rattle.link_world.specs.declared.connections.pumps.PumpFault.{PumpFault}
use Rattle.link_world.specs.declared.connections.pumps.PumpFault.TheVariants as fault
use Rattle.link_world.specs.Pumps.{Stage, Writing, Reading, ClientTurn, lines_read, HasRefused, IsLost}

-- why no more than n bytes were pushed: the budget is spent, and each byte took at most one step of it
abbrev pub IsPushFault : {F : Type 0} → (budget count : ℕ) → PumpFault F → Type 0
IsPushFault budget count fault.WriteFailed = ⊤
IsPushFault budget count fault.TurnsSpent = budget ≤ count
IsPushFault budget count _ = ⊥

-- a prefix of the bytes was pushed, and then no more
pub record Pushed {F : Type 0} (bytes : List ℕ) (taken taken_now : Option (List ℕ)) (budget : ℕ) (fault : PumpFault F) : Type 0 where
  pub count : ℕ
  pub within : count ≤ length bytes
  pub appended : Appends taken taken_now (take count bytes)
  pub why : IsPushFault budget count fault

-- why no piece was pulled
abbrev pub IsPullFault : {F : Type 0} → (budget : ℕ) → Option (List ℕ) → PumpFault F → Type 0
IsPullFault budget left_now fault.ReadFailed = ⊤
IsPullFault budget left_now fault.TurnsSpent = budget ≡ 0
IsPullFault budget left_now fault.Ended = IsAtEnd left_now
IsPullFault budget left_now _ = ⊥

-- a stage of a client's turn continues from one end to another, whatever the turn was before
abbrev pub GoesOn : Stage → List ℕ → List ℕ → ClientEnd → ClientEnd → Type 0
GoesOn stage read written old new = (least : ℕ) (start : ClientEnd)
    → ClientTurn least start stage read written old → ClientTurn least start stage read written new

-- a client's turn that reads continues, and each line has taken a step of the budget
abbrev pub ReadsOn : (budget budget_now : ℕ) → ClientEnd → ClientEnd → Type 0
ReadsOn budget budget_now old new = (least : ℕ) (start : ClientEnd) (read written : List ℕ)
    → (turn : ClientTurn least start Reading read written old)
    → (further : ClientTurn least start Reading read written new) × (budget_now + lines_read further ≤ budget + lines_read turn)

-- a client has sent all that was due, and all that it had written went out, at least one byte a step
pub record AllOut (old new : ClientEnd) (taken taken_now : Option (List ℕ)) (budget budget_now count : ℕ) : Type 0 where
  pub written : List ℕ
  pub turn : (least : ℕ) → ClientTurn least old Writing [] written new
  pub out : new.out ≡ []
  pub held : new.input ≡ old.input
  pub appended : Appends taken taken_now written
  pub counted : budget ≤ budget_now + length written
  pub count_is : count ≡ length written

-- a client was fed what was pulled; each step gave at least one byte
pub record Came (old new : ClientEnd) (left left_now : Option (List ℕ)) (budget budget_now count : ℕ) : Type 0 where
  pub read : List ℕ
  pub fed : new ≡ end_fed read old
  pub consumed : Consumes left left_now read
  pub counted : budget ≤ budget_now + length read
  pub count_is : count ≡ length read

-- why no more than n bytes have come
abbrev pub IsTakeFault : {F : Type 0} → (least budget count : ℕ) → Option (List ℕ) → PumpFault F → Type 0
IsTakeFault least budget count left_now fault.ReadFailed = ⊤
IsTakeFault least budget count left_now fault.Ended = (count < least) × IsAtEnd left_now
IsTakeFault least budget count left_now fault.TurnsSpent = budget ≤ count
IsTakeFault least budget count left_now fault.Memory = ⊤
IsTakeFault least budget count left_now _ = ⊥

-- the same, when fewer than n bytes have come
pub record CameShort (least : ℕ) (old new : ClientEnd) (left left_now : Option (List ℕ)) (budget : ℕ) (fault : PumpFault ClientFault) : Type 0
  where
    pub read : List ℕ
    pub lost : List ℕ
    pub fed : new ≡ end_fed read old
    pub consumed : Consumes left left_now (read ++ lost)
    pub is_lost : IsLost fault lost
    pub why : IsTakeFault least budget (length read) left_now fault

-- why no more lines are read, from the number of bytes held at first: each line has at least two
abbrev pub IsReadFault : (budget held : ℕ) → ClientEnd → PumpFault ClientFault → Type 0
IsReadFault budget held e fault.TurnsSpent = 2 * budget ≤ held
IsReadFault budget held e (fault.Core why) = HasRefused e (fault.Core why)
IsReadFault budget held e fault.Memory = ⊤
IsReadFault budget held e _ = ⊥
