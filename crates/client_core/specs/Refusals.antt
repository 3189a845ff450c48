-- Why calls of a client are refused (this profile).
use Rattle.std.specs.Prelude.{◌≡◌, ◌⊎◌, Bool, true, false, Some}
use Rattle.protocol_model.specs.Client.{Client}
use Rattle.protocol_model.specs.Ends.{ClientEnd}
use Rattle.client_core.specs.Clients.{is_faulted}
use Rattle.client_core.specs.declared.faults.ClientFault.{ClientFault}
use Rattle.client_core.specs.declared.faults.ClientFault.TheVariants as fault

-- a call that is possible where `can` says so: the client is not Faulted and cannot, or it is for this cause, or memory runs out
abbrev pub IsRefused : Bool → ClientEnd → ClientFault → Type 0
IsRefused can e fault.NotNow = (is_faulted e.client.state ≡ false) × (can ≡ false)
IsRefused can e (fault.Faulted cause) = (is_faulted e.client.state ≡ true) × (e.client.cause ≡ Some cause)
IsRefused can e fault.Memory = can ≡ true

-- a line is not read: the client is on no connection, it was Faulted before and nothing changed, it is Faulted by this call, or memory
-- runs out
abbrev pub IsReadRefused : ClientEnd → ClientEnd → ClientFault → Type 0
IsReadRefused old new fault.NotNow = (new ≡ old) × (old.client.on ≡ false) × (is_faulted old.client.state ≡ false)
IsReadRefused old new (fault.Faulted cause) = (is_faulted new.client.state ≡ true) × (new.client.cause ≡ Some cause)
IsReadRefused old new fault.Memory = new ≡ old

-- a line is not written: the client cannot, it was Faulted before and nothing changed, or all tags are held and it is Faulted by this call,
-- or memory runs out
abbrev pub IsSendRefused : Bool → ClientEnd → ClientEnd → ClientEnd → ClientFault → Type 0
IsSendRefused can old new sent fault.NotNow = (new ≡ old) × (is_faulted old.client.state ≡ false) × (can ≡ false)
IsSendRefused can old new sent (fault.Faulted cause) =
    ((can ≡ false) × (new ≡ old) × (is_faulted old.client.state ≡ true) × (old.client.cause ≡ Some cause))
    ⊎ ((can ≡ true) × (new ≡ sent) × (is_faulted new.client.state ≡ true) × (new.client.cause ≡ Some cause))
IsSendRefused can old new sent fault.Memory = new ≡ old

-- why a call that is not possible is refused
abbrev pub IsRefusal : Client → ClientFault → Type 0
IsRefusal c fault.NotNow = is_faulted c.state ≡ false
IsRefusal c (fault.Faulted cause) = (is_faulted c.state ≡ true) × (c.cause ≡ Some cause)
IsRefusal c fault.Memory = ⊥
