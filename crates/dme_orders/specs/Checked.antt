-- What printing a plan leaves, from any reader to any writer that report their bytes.
use Rattle.std.specs.Prelude.{◌≡◌, ◌⊎◌, ℕ, List, Bool, true, Option}
use Rattle.byte_ports.specs.Transfers.{GaveTimes}
use Rattle.byte_ports.specs.declared.transfers.PullFault.{PullFault}
use Rattle.byte_ports.specs.declared.transfers.PullFault.TheVariants as pull
use Rattle.dme_orders.specs.declared.check.CheckFault.{CheckFault}
use Rattle.dme_orders.specs.declared.check.CheckFault.TheVariants as check
use Rattle.order_parts.specs.declared.faults.FilesFault.{FilesFault}
use Rattle.order_parts.specs.declared.faults.FilesFault.TheVariants as fault
use Rattle.order_parts.specs.declared.faults.Role.TheVariants as role

-- the source has failed, or a million pulls each gave bytes
abbrev pub IsUnread : {S : Type 0} → (S → Option (List ℕ)) → (S → Bool) → S → S → Type 0
IsUnread left has_failed old new = (has_failed new ≡ true) ⊎ GaveTimes left has_failed 1000000 old new

-- what a source is called if its end was not reached
abbrev pub told_as : PullFault → CheckFault
told_as pull.Failed = check.Read
told_as pull.TooMany = check.Read
told_as pull.Memory = check.Memory

-- what an order over files calls it
abbrev pub in_files : CheckFault → FilesFault
in_files (check.Program cause) = fault.Program cause
in_files check.Read = fault.Unread role.Program
in_files check.Write = fault.Write
in_files check.Memory = fault.Memory
