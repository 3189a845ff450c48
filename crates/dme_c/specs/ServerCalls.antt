-- What each call of a server does, in the words of the server's own contracts, and the numbers of its answers.
use Rattle.std.specs.Prelude.{◌≡◌, ◌≢◌, ◌↔◌, ◌⊎◌, ◌++◌, ℕ, ℤ, pos, ◌==◌, if◌then◌else◌, min, take, drop, Bool, true, false, Option, Some, None, List, [], length}
use Rattle.std.specs.Prelude.{Result, Ok, Err, OnOk, IfOk, IfErr, IsOk, IsTrue}
use Rattle.std.specs.Result.{IsErrOf}
use Rattle.fixed_um.specs.Calls.{Leads}
use Rattle.fixed_um.specs.Shapes.{Direction}
use Rattle.fixed_um.specs.declared.lengths.Point.{Point}
use Rattle.line_framing.specs.Next.{next_of}
use Rattle.line_framing.specs.Framing.{IsLineDue}
use Rattle.line_framing.specs.declared.faults.FramingFault.{FramingFault}
use Rattle.line_framing.specs.declared.faults.FramingFault.TheVariants as framing
use Rattle.protocol_model.specs.Server.{may_end}
use Rattle.protocol_model.specs.Ends.{serving_accepted, serving_fed, serving_read, serving_turned, serving_machined, serving_taken}
use Rattle.protocol_model.specs.declared.machine.Job.{Job}
use Rattle.protocol_model.specs.declared.machine.Job.TheVariants as job
use Rattle.protocol_model.specs.declared.machine.Outcome.{Outcome}
use Rattle.server_core.specs.Serving.{ServerValue, with_end, may_accept, may_feed, may_turn, fits_running, IsFeedFault, IsReadFault, IsMachineFault}
use Rattle.server_core.specs.declared.faults.ServerFault.{ServerFault}
use Rattle.server_core.specs.declared.faults.ServerFault.TheVariants as fault

-- the fault of a server with this number
abbrev pub server_fault : ℕ → Option ServerFault
server_fault n =
    if n == 2 then Some fault.NotNow else if n == 3 then Some fault.Memory
    else if n == 17 then Some (fault.Framing framing.LineTooLong) else if n == 18 then Some (fault.Framing framing.BadByte)
    else if n == 24 then Some fault.NothingRuns else if n == 25 then Some fault.WrongOutcome
    else if n == 26 then Some fault.OutOfVolume else None

-- if no call is done, the number is that of a fault
abbrev pub refused : {A : Type 0} → Option ServerFault → Option (Result A ServerFault)
refused None = None
refused (Some why) = Some (Err why)

-- a call's answer: 0 if it is done
abbrev pub served : ℕ → Option (Result (Unit {0}) ServerFault)
served n = if n == 0 then Some (Ok tt) else refused (server_fault n)

-- a reading call's answer: 0 if a line was read, 1 if there is no line
abbrev pub line_served : ℕ → Option (Result Bool ServerFault)
line_served n = if n == 0 then Some (Ok true) else if n == 1 then Some (Ok false) else refused (server_fault n)

-- the server comes to the connection of this number exactly if it is allowed; otherwise the call is not possible now, and nothing changes
pub record Accepts (number : ℕ) (old new : ServerValue) (answer : Result (Unit {0}) ServerFault) : Type 0 where
  pub can : IsOk answer ↔ (may_accept number old.end.server ≡ true)
  pub leads : Leads answer old new (with_end old (serving_accepted number old.end))
  pub not_now : IfErr answer (λ why. why ≡ fault.NotNow)

-- the server takes a piece; it is refused on no connection, after a framing fault, and out of memory only if neither applies
pub record Feeds (piece : List ℕ) (old new : ServerValue) (answer : Result (Unit {0}) ServerFault) : Type 0 where
  pub can : OnOk answer (may_feed old.end ≡ true)
  pub leads : Leads answer old new (with_end old (serving_fed piece old.end))
  pub not_now : IsErrOf answer fault.NotNow ↔ (old.end.server.on ≡ false)
  pub framing : (why : FramingFault) → (answer ≡ Err (fault.Framing why))
      ↔ ((old.end.server.on ≡ true) × (old.end.input.fault ≡ Some why))
  pub others : IfErr answer (λ why. IsFeedFault old.end why)

-- the server reads a line and answers it, or finds no whole line; it is refused on no connection, if the input does not begin with a line,
-- and out of memory only for a line
pub record Reads (old new : ServerValue) (answer : Result Bool ServerFault) : Type 0 where
  pub ok : OnOk answer (new ≡ with_end old (serving_read old.end))
  pub read : IfOk answer (λ read. IsTrue read ↔ IsLineDue (next_of old.end.input.rest))
  pub nothing : (answer ≡ Ok false) ↔ ((old.end.server.on ≡ true) × (next_of old.end.input.rest ≡ Ok None))
  pub unread : answer ≡ Ok false → new ≡ old
  pub not_now : IsErrOf answer fault.NotNow ↔ (old.end.server.on ≡ false)
  pub framing : (why : FramingFault) → (answer ≡ Err (fault.Framing why))
      ↔ ((old.end.server.on ≡ true) × (next_of old.end.input.rest ≡ Err why))
  pub others : IfErr answer (λ why. IsReadFault old new why)

-- the first waiting command is processed; this is refused exactly if something runs or nothing waits, and otherwise it fails only if out
-- of memory
pub record Turns (old new : ServerValue) (answer : Result (Unit {0}) ServerFault) : Type 0 where
  pub leads : Leads answer old new (with_end old (serving_turned old.end))
  pub not_now : IsErrOf answer fault.NotNow ↔ (may_turn old.end.server ≡ false)
  pub others : IfErr answer (λ why. (why ≡ fault.NotNow) ⊎ (why ≡ fault.Memory))

-- what runs has ended with this outcome; each refusal comes exactly if it is due, and out of memory only if none is
pub record Ends (outcome : Outcome) (old new : ServerValue) (answer : Result (Unit {0}) ServerFault) : Type 0 where
  pub leads : Leads answer old new (with_end old (serving_machined outcome old.end))
  pub can : OnOk answer (may_end old.end.server.running outcome ≡ true)
  pub nothing_runs : IsErrOf answer fault.NothingRuns ↔ (old.end.server.running ≡ None)
  pub wrong : IsErrOf answer fault.WrongOutcome
      ↔ ((old.end.server.running ≢ None) × (fits_running old.end.server.running outcome ≡ false))
  pub outside : IsErrOf answer fault.OutOfVolume
      ↔ ((fits_running old.end.server.running outcome ≡ true) × (may_end old.end.server.running outcome ≡ false))
  pub others : IfErr answer (λ why. IsMachineFault old.end.server outcome why)

-- a prefix of what is to be sent was copied to the start of the room, as much as fits, and counts as sent
abbrev pub Takes : List ℕ → List ℕ → ℕ → ServerValue → ServerValue → Type 0
Takes room_old room_new count old new =
    (count ≡ min (length old.end.out) (length room_old)) × (room_new ≡ take count old.end.out ++ drop count room_old)
    × (new ≡ with_end old (serving_taken count old.end))

-- what runs on the machine, as a number: nothing, it goes home, it goes to a place, it touches near a place, its tool is changed
abbrev pub job_number : Option Job → ℕ
job_number None = 0
job_number (Some job.Home) = 1
job_number (Some (job.Move p)) = 2
job_number (Some (job.Touch p d)) = 3
job_number (Some (job.Change n)) = 4

-- where it goes or touches
abbrev pub job_place : Option Job → Option Point
job_place (Some (job.Move p)) = Some p
job_place (Some (job.Touch p d)) = Some p
job_place _ = None

-- the outward normal where it touches, if one is given
abbrev pub job_normal : Option Job → Option Direction
job_normal (Some (job.Touch p d)) = d
job_normal _ = None

-- three zeros, which carry no meaning
abbrev pub AreZero : ℤ → ℤ → ℤ → Type 0
AreZero x y z = (x ≡ pos 0) × (y ≡ pos 0) × (z ≡ pos 0)

-- the tool that is changed to
abbrev pub job_tool : Option Job → List ℕ
job_tool (Some (job.Change n)) = n
job_tool _ = []
