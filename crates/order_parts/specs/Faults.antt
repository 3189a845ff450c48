-- The exit statuses of orders, and what features without a table are to one (this profile).
use Rattle.std.specs.Prelude.{ℕ}
use Rattle.deviations.specs.declared.faults.RowsFault.{RowsFault}
use Rattle.deviations.specs.declared.faults.RowsFault.TheVariants as rows
use Rattle.protocol_model.specs.declared.states.State.{State}
use Rattle.protocol_model.specs.declared.states.State.TheVariants.{Halted, Faulted}
use Rattle.order_parts.specs.declared.faults.FilesFault.{FilesFault}
use Rattle.order_parts.specs.declared.faults.FilesFault.TheVariants as files
use Rattle.order_parts.specs.declared.faults.OrderFault.{OrderFault}
use Rattle.order_parts.specs.declared.faults.OrderFault.TheVariants as fault

-- what features without a table are to an order
abbrev pub told_of_rows : RowsFault → FilesFault
told_of_rows rows.NotOurs = files.NotOurs
told_of_rows rows.Memory = files.Memory

-- 1 for input that is refused, for files and for connections, 4 if out of memory
abbrev pub status_of : OrderFault → ℕ
status_of (fault.Program cause) = 1
status_of (fault.Setup cause) = 1
status_of (fault.Schedule cause) = 1
status_of (fault.Features cause) = 1
status_of (fault.Contacts cause) = 1
status_of (fault.Record cause) = 1
status_of (fault.Limits cause) = 1
status_of (fault.Machine cause) = 1
status_of (fault.OtherProgram label) = 1
status_of (fault.BadSeal line) = 1
status_of fault.EmptyKey = 1
status_of (fault.CannotRead file) = 1
status_of fault.CannotWriteOutput = 1
status_of (fault.CannotWrite file) = 1
status_of fault.NotOurs = 1
status_of (fault.ConnectionFailed cause) = 1
status_of fault.Memory = 4

-- 3 if the client was stopped, or met an unexpected line or mark
abbrev pub status_of_state : State → ℕ
status_of_state Halted = 3
status_of_state Faulted = 3
status_of_state _ = 0
