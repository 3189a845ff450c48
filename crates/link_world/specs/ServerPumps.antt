-- Turns of a server and its machine over the ports of a connection (this profile).
use Rattle.std.specs.Prelude.{◌≡◌, ℕ, ◌+◌, ◌*◌, ◌<◌, ◌≤◌, true, false, ⊤, Option, None, Some, List, [], ◌++◌, length, take, Ok, Err}
use Rattle.std.specs.Io.KnownBytes.{Appends, Consumes, IsAtEnd}
use Rattle.line_framing.specs.Next.{next_of}
use Rattle.contact_ledger.specs.Ledgers.{contact_count}
use Rattle.protocol_model.specs.Server.{running_job}
use Rattle.protocol_model.specs.Ends.{ServerEnd, serving_fed, serving_read, serving_turned, serving_machined, serving_taken, serving_left}
use Rattle.protocol_model.specs.World.{is_line}
use Rattle.protocol_model.specs.declared.machine.Job.{Job}
use Rattle.protocol_model.specs.declared.machine.Outcome.{Outcome}
use Rattle.server_core.specs.Serving.{may_feed, may_turn}
use Rattle.server_core.specs.declared.faults.ServerFault.{ServerFault}
use Rattle.server_core.specs.declared.faults.ServerFault.TheVariants as server_fault
use Rattle.link_world.specs.declared.connections.pumps.Moved.{Moved}
use Rattle.link_world.specs.declared.connections.pumps.PumpFault.{PumpFault}
use Rattle.link_world.specs.declared.connections.pumps.PumpFault.TheVariants as fault
use Rattle.link_world.specs.Pumps.{Stage, Writing, Taking, Reading, Working, IsLost}

-- a server's turn that has come this far, with the bytes that came in and those that went out, in this order: bytes come in, at least n;
-- the server reads each whole line; while it can, it ends what runs as its machine answers, and processes what waits; and all that it has
-- answered goes out
pub data ServerTurn (answer : Job → ℕ → Outcome) (least : ℕ) (start : ServerEnd)
    : Stage → List ℕ → List ℕ → ServerEnd → Type 0 where
  begins : ServerTurn answer least start Taking [] [] start
  takes : (read : List ℕ) → may_feed start ≡ true → ServerTurn answer least start Taking read [] (serving_fed read start)
  has : (e : ServerEnd) (read : List ℕ) → ServerTurn answer least start Taking read [] e → least ≤ length read
      → ServerTurn answer least start Reading read [] e
  reads : (e : ServerEnd) (read : List ℕ) → ServerTurn answer least start Reading read [] e → e.server.on ≡ true
      → is_line (next_of e.input.rest) ≡ true → ServerTurn answer least start Reading read [] (serving_read e)
  knows : (e : ServerEnd) (read : List ℕ) → ServerTurn answer least start Reading read [] e → next_of e.input.rest ≡ Ok None
      → ServerTurn answer least start Working read [] e
  turns : (e : ServerEnd) (read : List ℕ) → ServerTurn answer least start Working read [] e → may_turn e.server ≡ true
      → ServerTurn answer least start Working read [] (serving_turned e)
  ends : (e : ServerEnd) (read : List ℕ) (job : Job) → ServerTurn answer least start Working read [] e
      → running_job e.server ≡ Some job
      → ServerTurn answer least start Working read [] (serving_machined (answer job (contact_count e.server.ledger)) e)
  writes : (e : ServerEnd) (read : List ℕ) (count : ℕ) → ServerTurn answer least start Working read [] e
      → may_turn e.server ≡ false → running_job e.server ≡ None → count ≤ length e.out
      → ServerTurn answer least start Writing read (take count e.out) (serving_taken count e)

-- the number of lines that a server's turn that has come this far has read, of waiting commands that it has processed, and of running jobs
-- that have ended, in total
abbrev pub steps_made : {answer : Job → ℕ → Outcome} {least : ℕ} {start : ServerEnd} {stage : Stage}
    {read written : List ℕ} {e : ServerEnd} → ServerTurn answer least start stage read written e → ℕ
steps_made begins = 0
steps_made (takes read may) = 0
steps_made (has e read t enough) = steps_made t
steps_made (reads e read t on is) = steps_made t + 1
steps_made (knows e read t none) = steps_made t
steps_made (turns e read t may) = steps_made t + 1
steps_made (ends e read job t runs) = steps_made t + 1
steps_made (writes e read count t none idle within) = steps_made t

-- a server's whole turn: all has gone out, the source has lost exactly the bytes that came in, and the sink has taken those that went out
pub record ServerMoved (answer : Job → ℕ → Outcome) (least : ℕ) (old new : ServerEnd) (left left_now taken taken_now : Option (List ℕ))
    (moved : Moved) : Type 0
  where
    pub read : List ℕ
    pub written : List ℕ
    pub turn : ServerTurn answer least old Writing read written new
    pub all : new.out ≡ []
    pub consumed : Consumes left left_now read
    pub appended : Appends taken taken_now written
    pub read_is : moved.read ≡ length read
    pub written_is : moved.written ≡ length written

-- the same in at most n steps: one for each call of a port, which are counted from one number to another, and one for each line, each
-- command processed and each job that ends
pub record ServerMovedWithin (answer : Job → ℕ → Outcome) (bound calls calls_now least : ℕ) (old new : ServerEnd)
    (left left_now taken taken_now : Option (List ℕ)) (moved : Moved) : Type 0
  where
    pub whole : ServerMoved answer least old new left left_now taken taken_now moved
    pub within : calls_now + steps_made (whole.turn) ≤ calls + bound

-- a server's refusal as the fault of a pump: out of memory is a fault of its own
abbrev pub of_server : ServerFault → PumpFault ServerFault
of_server server_fault.Memory = fault.Memory
of_server why = fault.Core why

-- why a server refuses what its pump calls: it is on no connection, or the bytes at the start are not a line
abbrev pub IsServerRefusal : ServerEnd → ServerFault → Type 0
IsServerRefusal e server_fault.NotNow = e.server.on ≡ false
IsServerRefusal e (server_fault.Framing why) = next_of e.input.rest ≡ Err why
IsServerRefusal e _ = ⊥

-- why a server's turn has stopped, as `ClientWhy` specifies it for a client: while it works, it makes at most 129 steps, for one command
-- that runs and 64 that wait
abbrev pub ServerWhy : (least bound : ℕ) → (read written held : ℕ) → Option (List ℕ) → ServerEnd → PumpFault ServerFault → Type 0
ServerWhy least bound read written held left_now e fault.ReadFailed = ⊤
ServerWhy least bound read written held left_now e fault.WriteFailed = ⊤
ServerWhy least bound read written held left_now e fault.Ended = (read < least) × IsAtEnd left_now
ServerWhy least bound read written held left_now e fault.TurnsSpent = bound ≤ written + 4 * (read + held) + 129
ServerWhy least bound read written held left_now e (fault.Core why) = IsServerRefusal e why
ServerWhy least bound read written held left_now e fault.Memory = ⊤

-- a server's turn that has stopped: it came this far, then the server left its connection
pub record ServerStopped (answer : Job → ℕ → Outcome) (least bound : ℕ) (old new : ServerEnd)
    (left left_now taken taken_now : Option (List ℕ)) (fault : PumpFault ServerFault) : Type 0
  where
    pub stage : Stage
    pub read : List ℕ
    pub written : List ℕ
    pub lost : List ℕ
    pub last : ServerEnd
    pub turn : ServerTurn answer least old stage read written last
    pub leaves : new ≡ serving_left last
    pub consumed : Consumes left left_now (read ++ lost)
    pub is_lost : IsLost fault lost
    pub appended : Appends taken taken_now written
    pub why : ServerWhy least bound (length read) (length written) (length old.input.rest) left_now last fault

-- the same, after at most n steps
pub record ServerStoppedWithin (answer : Job → ℕ → Outcome) (bound calls calls_now least : ℕ) (old new : ServerEnd)
    (left left_now taken taken_now : Option (List ℕ)) (fault : PumpFault ServerFault) : Type 0
  where
    pub front : ServerStopped answer least bound old new left left_now taken taken_now fault
    pub within : calls_now + steps_made (front.turn) ≤ calls + bound
