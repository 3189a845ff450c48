-- What each call of a client does, in the words of the client's own contracts.
use Rattle.std.specs.Prelude.{◌≡◌, ◌≢◌, ◌↔◌, ◌++◌, ℕ, ◌≤◌, codes, min, take, drop, Bool, true, false, List, length, Result, OnOk, IfOk, IfErr, IsTrue, is_some}
use Rattle.std.specs.Result.{IsErrOf}
use Rattle.fixed_um.specs.Calls.{Leads}
use Rattle.line_framing.specs.Next.{next_of}
use Rattle.line_framing.specs.Framing.{IsLineDue}
use Rattle.protocol_model.specs.Client.{due, may_abort, may_resume}
use Rattle.protocol_model.specs.Ends.{ClientEnd, end_connected, end_sent, end_aborted, end_fed, end_read, end_resumed, end_taken}
use Rattle.contact_ledger.specs.FeatureTexts.{features_text, header}
use Rattle.contact_ledger.specs.declared.features.Feature.{Feature}
use Rattle.client_core.specs.Clients.{is_faulted, may_connect, may_read}
use Rattle.client_core.specs.Refusals.{IsRefused, IsReadRefused, IsSendRefused}
use Rattle.client_core.specs.declared.faults.ClientFault.{ClientFault}
use Rattle.client_core.specs.declared.faults.ClientFault.TheVariants as fault

-- a call that leads from one client to another if it is allowed, and otherwise changes nothing
abbrev pub DoesOrStays : (ClientEnd → Bool) → (ClientEnd → ClientEnd) → ClientEnd → ClientEnd → Result (Unit {0}) ClientFault → Type 0
DoesOrStays may then old new answer =
    Leads answer old new (then old) × OnOk answer (may old ≡ true) × IfErr answer (λ fault. IsRefused (may old) old fault)

abbrev pub Connects : ℕ → ClientEnd → ClientEnd → Result (Unit {0}) ClientFault → Type 0
Connects number = DoesOrStays (λ e. may_connect number e.client) (end_connected number)

abbrev pub Feeds : List ℕ → ClientEnd → ClientEnd → Result (Unit {0}) ClientFault → Type 0
Feeds piece = DoesOrStays (λ e. may_read e.client) (end_fed piece)

abbrev pub Resumes : ClientEnd → ClientEnd → Result (Unit {0}) ClientFault → Type 0
Resumes = DoesOrStays (λ e. may_resume e.client e.client.state) end_resumed

-- a call that writes a line if it is allowed; otherwise, or if this call makes the client Faulted, the fault says why. It is out of memory
-- only if it is allowed to write
pub record Writes (may : ClientEnd → Bool) (then : ClientEnd → ClientEnd) (old new : ClientEnd)
    (answer : Result (Unit {0}) ClientFault) : Type 0 where
  pub ok : OnOk answer (new ≡ then old)
  pub sent : OnOk answer (is_faulted new.client.state ≡ false)
  pub can : OnOk answer (may old ≡ true)
  pub refused : IfErr answer (λ why. IsSendRefused (may old) old new (then old) why)
  pub memory : IsErrOf answer fault.Memory → may old ≡ true

abbrev pub Sends : ClientEnd → ClientEnd → Result (Unit {0}) ClientFault → Type 0
Sends = Writes (λ e. is_some (due e.client)) end_sent

abbrev pub Aborts : ClientEnd → ClientEnd → Result (Unit {0}) ClientFault → Type 0
Aborts = Writes (λ e. may_abort e.client.state) end_aborted

-- the client reads a line, finds no whole line, or is Faulted by what comes first; nothing changes if it may not read, and it is out of
-- memory only for a line
pub record Reads (old new : ClientEnd) (answer : Result Bool ClientFault) : Type 0 where
  pub ok : OnOk answer (new ≡ end_read old)
  pub fine : OnOk answer (is_faulted new.client.state ≡ false)
  pub read : IfOk answer (λ read. IsTrue read ↔ IsLineDue (next_of old.input.rest))
  pub can : OnOk answer (may_read old.client ≡ true)
  pub refused : IfErr answer (λ why. IsReadRefused old new why)
  pub met : IfErr answer (λ why. why ≢ fault.Memory → may_read old.client ≡ true → new ≡ end_read old)
  pub before : may_read old.client ≡ false → new ≡ old
  pub memory : IsErrOf answer fault.Memory → may_read old.client ≡ true
  pub line : IsErrOf answer fault.Memory → IsLineDue (next_of old.input.rest)

-- a prefix of what is to be sent was copied to the start of the room, as much as fits, and counts as sent
abbrev pub Takes : List ℕ → List ℕ → ℕ → ClientEnd → ClientEnd → Type 0
Takes room_old room_new count old new =
    (count ≡ min (length old.out) (length room_old)) × (room_new ≡ take count old.out ++ drop count room_old) × (new ≡ end_taken count old)

-- the text of these features in the version whose first line is `DME-FEATURES 2`; the first line distinguishes the versions
abbrev pub IsTextOf : List Feature → List ℕ → Type 0
IsTextOf features text = (version : _) × (header version ≡ codes "DME-FEATURES 2") × (text ≡ features_text version features)

-- the length of the text of these features, which was copied to the start of the room if it fits
pub record HasText (features : List Feature) (count : ℕ) (room_old room_new : List ℕ) : Type 0 where
  pub text : List ℕ
  pub is_text : IsTextOf features text
  pub count_is : count ≡ length text
  pub front : count ≤ length room_old → take count room_new ≡ text
