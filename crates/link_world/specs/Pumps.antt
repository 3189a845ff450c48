-- Turns of one side of a connection over its ports (this profile): what a side does, in which order, which bytes move, and where it stops.
use Rattle.std.specs.Prelude.{◌≡◌, ℕ, ◌+◌, ◌*◌, ◌<◌, ◌≤◌, Bool, true, false, ⊤, Option, None, Some, List, [], ◌++◌, length, take, is_some}
use Rattle.std.specs.Prelude.{Result, Ok, Err}
use Rattle.std.specs.Result.{IsErrOf}
use Rattle.std.specs.Io.KnownBytes.{Appends, Consumes, IsAtEnd}
use Rattle.line_framing.specs.Next.{Front, next_of}
use Rattle.protocol_model.specs.Client.{due}
use Rattle.protocol_model.specs.Ends.{ClientEnd, end_sent, end_taken, end_fed, end_read, end_left}
use Rattle.protocol_model.specs.World.{is_any}
use Rattle.client_core.specs.Clients.{may_read}
use Rattle.client_core.specs.Refusals.{IsRefused}
use Rattle.client_core.specs.declared.faults.ClientFault.{ClientFault}
use Rattle.client_core.specs.declared.faults.ClientFault.TheVariants as client_fault
use Rattle.link_world.specs.declared.connections.pumps.Moved.{Moved}
use Rattle.link_world.specs.declared.connections.pumps.PumpFault.{PumpFault}
use Rattle.link_world.specs.declared.connections.pumps.PumpFault.TheVariants as fault

-- this fault blames a port: it comes only if the port has failed, and always if a port that worked has failed
abbrev pub Blames : {A E : Type 0} → E → Result A E → (before after : Bool) → Type 0
Blames why result before after = (IsErrOf result why → after ≡ true) × (before ≡ false → after ≡ true → IsErrOf result why)

-- these faults blame the two ports of a connection
abbrev pub BlamesPorts : {A E : Type 0} → (reading writing : E) → Result A E → (read read_now written written_now : Bool) → Type 0
BlamesPorts reading writing result read read_now written written_now =
    Blames reading result read read_now × Blames writing result written written_now

-- a client's refusal as the fault of a pump: out of memory is a fault of its own
abbrev pub of_client : ClientFault → PumpFault ClientFault
of_client client_fault.NotNow = fault.Core client_fault.NotNow
of_client (client_fault.Faulted cause) = fault.Core (client_fault.Faulted cause)
of_client client_fault.Memory = fault.Memory

-- how far a turn has come: commands are sent, what was written goes out, bytes come in, lines are read, a server works
pub data Stage : Type 0 where
  Sending : Stage
  Writing : Stage
  Taking : Stage
  Reading : Stage
  Working : Stage

-- a client's turn that has come this far, with the bytes that came in and those that went out, in this order: the client sends while a
-- command is due; all that it has written goes out; bytes come in, at least n; it reads the lines at the start of its bytes
pub data ClientTurn (least : ℕ) (start : ClientEnd) : Stage → List ℕ → List ℕ → ClientEnd → Type 0 where
  begins : ClientTurn least start Sending [] [] start
  sends : (e : ClientEnd) → ClientTurn least start Sending [] [] e → is_some (due e.client) ≡ true
      → ClientTurn least start Sending [] [] (end_sent e)
  writes : (e : ClientEnd) (count : ℕ) → ClientTurn least start Sending [] [] e → due e.client ≡ None → count ≤ length e.out
      → ClientTurn least start Writing [] (take count e.out) (end_taken count e)
  takes : (e : ClientEnd) (read written : List ℕ) → ClientTurn least start Writing [] written e → e.out ≡ []
      → may_read e.client ≡ true → ClientTurn least start Taking read written (end_fed read e)
  has : (e : ClientEnd) (read written : List ℕ) → ClientTurn least start Taking read written e → least ≤ length read
      → ClientTurn least start Reading read written e
  reads : (e : ClientEnd) (read written : List ℕ) → ClientTurn least start Reading read written e → may_read e.client ≡ true
      → is_any (next_of e.input.rest) ≡ true → ClientTurn least start Reading read written (end_read e)

-- how many lines are at the start as its next line: bytes that are not a line count as none
abbrev pub next_lines : Front → ℕ
next_lines (Ok None) = 0
next_lines (Ok (Some found)) = 1
next_lines (Err why) = 0

-- how many lines a client's turn that has come this far has read
abbrev pub lines_read : {least : ℕ} {start : ClientEnd} {stage : Stage} {read written : List ℕ} {e : ClientEnd}
    → ClientTurn least start stage read written e → ℕ
lines_read begins = 0
lines_read (sends e t is) = lines_read t
lines_read (writes e count t none within) = lines_read t
lines_read (takes e read written t out may) = lines_read t
lines_read (has e read written t enough) = lines_read t
lines_read (reads e read written t may is) = lines_read t + next_lines (next_of e.input.rest)

-- a client's whole turn: nothing is left to be read, the source has lost exactly the bytes that came in, and the sink has taken those that
-- went out
pub record ClientMoved (least : ℕ) (old new : ClientEnd) (left left_now taken taken_now : Option (List ℕ)) (moved : Moved) : Type 0 where
  pub read : List ℕ
  pub written : List ℕ
  pub turn : ClientTurn least old Reading read written new
  pub may : may_read new.client ≡ true
  pub all : next_of new.input.rest ≡ Ok None
  pub consumed : Consumes left left_now read
  pub appended : Appends taken taken_now written
  pub read_is : moved.read ≡ length read
  pub written_is : moved.written ≡ length written

-- the same in at most n steps: one for each call of a port, which are counted from one number to another, and one for each line
pub record ClientMovedWithin (bound calls calls_now least : ℕ) (old new : ClientEnd) (left left_now taken taken_now : Option (List ℕ))
    (moved : Moved) : Type 0
  where
    pub whole : ClientMoved least old new left left_now taken taken_now moved
    pub within : calls_now + lines_read (whole.turn) ≤ calls + bound

-- the client has refused: because memory ran out, or as it refuses to read and to send
abbrev pub HasRefused : ClientEnd → PumpFault ClientFault → Type 0
HasRefused e (fault.Core client_fault.NotNow) = IsRefused (may_read e.client) e client_fault.NotNow
HasRefused e (fault.Core (client_fault.Faulted cause)) = IsRefused (may_read e.client) e (client_fault.Faulted cause)
HasRefused e fault.Memory = ⊤
HasRefused e _ = ⊥

-- why a client's turn that asks for n bytes has stopped, from the counts of bytes that came in, that went out and that it held unread at
-- first, from what the source has left, and from the client's end before it left
abbrev pub ClientWhy : (least bound : ℕ) → (read written held : ℕ) → Option (List ℕ) → ClientEnd → PumpFault ClientFault → Type 0
ClientWhy least bound read written held left_now e fault.ReadFailed = ⊤
ClientWhy least bound read written held left_now e fault.WriteFailed = ⊤
ClientWhy least bound read written held left_now e fault.Ended = (read < least) × IsAtEnd left_now
ClientWhy least bound read written held left_now e fault.TurnsSpent = bound ≤ written + 2 * (read + held)
ClientWhy least bound read written held left_now e (fault.Core why) = HasRefused e (fault.Core why)
ClientWhy least bound read written held left_now e fault.Memory = ⊤

-- bytes are discarded only if memory runs out
abbrev pub IsLost : {F : Type 0} → PumpFault F → List ℕ → Type 0
IsLost fault.Memory lost = ⊤
IsLost _ lost = lost ≡ []

-- a client's turn that has stopped: it came this far, then the client left its connection
pub record ClientStopped (least bound : ℕ) (old new : ClientEnd) (left left_now taken taken_now : Option (List ℕ))
    (fault : PumpFault ClientFault) : Type 0
  where
    pub stage : Stage
    pub read : List ℕ
    pub written : List ℕ
    pub lost : List ℕ
    pub last : ClientEnd
    pub turn : ClientTurn least old stage read written last
    pub leaves : new ≡ end_left last
    pub consumed : Consumes left left_now (read ++ lost)
    pub is_lost : IsLost fault lost
    pub appended : Appends taken taken_now written
    pub why : ClientWhy least bound (length read) (length written) (length old.input.rest) left_now last fault

-- the same, after at most n steps
pub record ClientStoppedWithin (bound calls calls_now least : ℕ) (old new : ClientEnd) (left left_now taken taken_now : Option (List ℕ))
    (fault : PumpFault ClientFault) : Type 0
  where
    pub front : ClientStopped least bound old new left left_now taken taken_now fault
    pub within : calls_now + lines_read (front.turn) ≤ calls + bound
