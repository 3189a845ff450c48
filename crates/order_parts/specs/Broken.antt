-- Why a connection was broken off, and what is shown for that (this profile).
use Rattle.std.specs.Prelude.{◌≡◌, ℕ, Bool, true, false, if◌then◌else◌, List, [], codes, Option, Some, None}
use Rattle.client_core.specs.declared.faults.ClientFault.{ClientFault}
use Rattle.client_core.specs.declared.faults.ClientFault.TheVariants as client_fault
use Rattle.protocol_model.specs.declared.states.Cause.{Cause}
use Rattle.protocol_model.specs.declared.states.Cause.TheVariants as faulted
use Rattle.protocol_model.specs.declared.states.State.{State}
use Rattle.protocol_model.specs.declared.states.State.TheVariants as state
use Rattle.server_core.specs.declared.faults.ServerFault.{ServerFault}
use Rattle.server_core.specs.declared.faults.ServerFault.TheVariants as server_fault
use Rattle.link_world.specs.declared.connections.pumps.PumpFault.TheVariants as pump
use Rattle.link_world.specs.declared.connections.links.LoopFault.{LoopFault}
use Rattle.link_world.specs.declared.connections.links.LoopFault.TheVariants as link
use Rattle.order_parts.specs.declared.faults.OrderFault.{OrderFault}
use Rattle.order_parts.specs.declared.faults.OrderFault.TheVariants as fault

-- this fault blames a port: it broke the connection off only if the port has failed, and it did if a port that worked has failed
abbrev pub Blames : LoopFault → Option LoopFault → Bool → Bool → Type 0
Blames fault broken before after = (broken ≡ Some fault → after ≡ true) × (before ≡ false → after ≡ true → broken ≡ Some fault)

-- the two ports of the client are blamed so
abbrev pub BlamesClient : Option LoopFault → (read read_now written written_now : Bool) → Type 0
BlamesClient broken read read_now written written_now =
    Blames (link.Client pump.ReadFailed) broken read read_now × Blames (link.Client pump.WriteFailed) broken written written_now

-- and so those of the server
abbrev pub BlamesServer : Option LoopFault → (read read_now written written_now : Bool) → Type 0
BlamesServer broken read read_now written written_now =
    Blames (link.Server pump.ReadFailed) broken read read_now × Blames (link.Server pump.WriteFailed) broken written written_now

-- what a server has done that its client does not expect
abbrev pub unexpected : Cause → List ℕ
unexpected faulted.NotResponse = codes "the server sent no response, or data that its command did not ask for\n"
unexpected faulted.LineTooLong = codes "the server sent a line of more than 65536 bytes\n"
unexpected faulted.BadByte = codes "the server sent a CR or an LF inside a line\n"
unexpected faulted.UnknownTag = codes "the server answered under a tag that no command has open\n"
unexpected faulted.OutOfOrder = codes "the server sent a response that its command cannot have there\n"
unexpected faulted.NoData = codes "the server ended a command without the data that it asks for\n"
unexpected faulted.SecondData = codes "the server sent data twice for one command\n"
unexpected faulted.TagsSpent = codes "the server has ended no command for so long that no tag is free\n"

-- what a client's refusal says about its connection
abbrev pub client_cause : ClientFault → List ℕ
client_cause (client_fault.Faulted cause) = unexpected cause
client_cause client_fault.NotNow = codes "the client is on no connection\n"
client_cause client_fault.Memory = codes "the client is on no connection\n"

-- what a server's refusal says about its connection
abbrev pub server_cause : ServerFault → List ℕ
server_cause (server_fault.Framing why) = codes "the client sent bytes that are no lines\n"
server_cause _ = codes "the server is on no connection\n"

-- why a connection was broken off, as a line
abbrev pub cause_of : LoopFault → List ℕ
cause_of (link.Client (pump.Core why)) = client_cause why
cause_of (link.Server (pump.Core why)) = server_cause why
cause_of (link.Client pump.ReadFailed) = codes "the connection could not be read\n"
cause_of (link.Server pump.ReadFailed) = codes "the connection could not be read\n"
cause_of (link.Client pump.WriteFailed) = codes "the connection could not be written\n"
cause_of (link.Server pump.WriteFailed) = codes "the connection could not be written\n"
cause_of (link.Client pump.Ended) = codes "the server has left the connection\n"
cause_of (link.Server pump.Ended) = codes "the client has left the connection\n"
cause_of (link.Client pump.TurnsSpent) = codes "too many steps were made\n"
cause_of (link.Server pump.TurnsSpent) = codes "too many steps were made\n"
cause_of (link.Client pump.Memory) = []
cause_of (link.Server pump.Memory) = []

-- a connection is shown as one that failed, with this second line
abbrev pub IsConnectionShown : List ℕ → OrderFault → Type 0
IsConnectionShown line (fault.ConnectionFailed cause) = cause.now ≡ line
IsConnectionShown line _ = ⊥

-- running out of memory is shown as such, all else as a connection that failed, with the cause if that is asked for
abbrev pub IsBreakShown : LoopFault → Bool → OrderFault → Type 0
IsBreakShown (link.Client pump.Memory) told shown = shown ≡ fault.Memory
IsBreakShown (link.Server pump.Memory) told shown = shown ≡ fault.Memory
IsBreakShown why told shown = IsConnectionShown (if told then cause_of why else []) shown

-- 4 if out of memory, 1 for all else
abbrev pub break_status : LoopFault → ℕ
break_status (link.Client pump.Memory) = 4
break_status (link.Server pump.Memory) = 4
break_status _ = 1

-- a connection was broken off for a line that the client did not expect
abbrev pub is_for_a_line : Option LoopFault → Bool
is_for_a_line (Some (link.Client (pump.Core (client_fault.Faulted cause)))) = true
is_for_a_line _ = false

-- a run was halted and its connection not broken off: its server may still end the last command
abbrev pub is_open : State → Option LoopFault → Bool
is_open state.Halted None = true
is_open _ _ = false
