-- The numbers of answers, as in the header.
use Rattle.std.specs.Prelude.{ℕ, ◌==◌, if◌then◌else◌, Bool, true, false, Option, None, Some, Result, Ok, Err}
use Rattle.protocol_model.specs.declared.states.Cause.TheVariants as cause
use Rattle.protocol_model.specs.declared.states.State.{State}
use Rattle.protocol_model.specs.declared.states.State.TheVariants as state
use Rattle.client_core.specs.declared.faults.ClientFault.{ClientFault}
use Rattle.client_core.specs.declared.faults.ClientFault.TheVariants as fault
use Rattle.dme_c.specs.declared.codes.NotMade.{NotMade}
use Rattle.dme_c.specs.declared.codes.NotMade.TheVariants as not_made

-- the fault of a client with this number
abbrev pub client_fault : ℕ → Option ClientFault
client_fault n =
    if n == 2 then Some fault.NotNow else if n == 3 then Some fault.Memory
    else if n == 16 then Some (fault.Faulted cause.NotResponse) else if n == 17 then Some (fault.Faulted cause.LineTooLong)
    else if n == 18 then Some (fault.Faulted cause.BadByte) else if n == 19 then Some (fault.Faulted cause.UnknownTag)
    else if n == 20 then Some (fault.Faulted cause.OutOfOrder) else if n == 21 then Some (fault.Faulted cause.NoData)
    else if n == 22 then Some (fault.Faulted cause.SecondData) else if n == 23 then Some (fault.Faulted cause.TagsSpent) else None

-- if no call is done, the number is that of a fault
abbrev pub refused : {A : Type 0} → Option ClientFault → Option (Result A ClientFault)
refused None = None
refused (Some fault) = Some (Err fault)

-- a call's answer: 0 if it is done
abbrev pub call_answer : ℕ → Option (Result (Unit {0}) ClientFault)
call_answer n = if n == 0 then Some (Ok tt) else refused (client_fault n)

-- a reading call's answer: 0 if a line was read, 1 if there is no line
abbrev pub read_answer : ℕ → Option (Result Bool ClientFault)
read_answer n = if n == 0 then Some (Ok true) else if n == 1 then Some (Ok false) else refused (client_fault n)

-- the number of a state
abbrev pub state_number : State → ℕ
state_number state.Apart = 0
state_number state.Running = 1
state_number state.Failing = 2
state_number state.Aborting = 3
state_number state.Halted = 4
state_number state.Done = 5
state_number state.Faulted = 6

-- the number of the reason why no client is made
abbrev pub not_made_number : NotMade → ℕ
not_made_number not_made.Memory = 3
not_made_number not_made.BadSetup = 4
not_made_number not_made.BadProgram = 5
not_made_number not_made.BadFeatures = 6
not_made_number not_made.BadWindow = 7
not_made_number not_made.NotOurs = 8
