-- What the record of a run holds in memory while it follows a client, and what each of its calls does (this profile).
use Rattle.std.specs.Prelude.{◌≡◌, ◌≢◌, ◌⊎◌, ◌++◌, ◌+◌, ◌-◌, ◌^◌, ℕ, min, map, take, drop, true, List, length, Option, Some, None, Result, OnOk, OnErr, IfErr}
use Rattle.fixed_um.specs.Calls.{Leads}
use Rattle.contact_ledger.specs.Lines.{text_of}
use Rattle.contact_ledger.specs.declared.acts.Act.{Act}
use Rattle.protocol_model.specs.Client.{may_resume}
use Rattle.protocol_model.specs.Ends.{ClientEnd, end_connected, end_resumed}
use Rattle.record_text.specs.Entries.{entry_line}
use Rattle.record_text.specs.Tellings.{Counted, counted_after, entries_of}
use Rattle.client_core.specs.Clients.{may_connect}
use Rattle.client_core.specs.Refusals.{IsRefused}
use Rattle.client_core.specs.declared.faults.ClientFault.{ClientFault}
use Rattle.client_core.specs.declared.faults.ClientFault.TheVariants as fault

-- the number of the last connection, what was counted there, how many of the acts that were counted there have their lines, and the bytes
-- of the record that were not taken yet
pub record RecordValue : Type 0 where
  pub on : ℕ
  pub counted : Counted
  pub told : ℕ
  pub waiting : List ℕ

-- the acts that a client has counted on its connection
abbrev pub acts : ClientEnd → List Act
acts e = e.client.table.tally.counted

-- how many features a client has
abbrev pub features_held : ClientEnd → ℕ
features_held e = length e.client.table.tally.features

-- those of the acts that have no lines yet
abbrev pub untold : ClientEnd → RecordValue → List Act
untold e r = drop (min r.told (length (acts e))) (acts e)

-- the bytes of the lines that are due: those of these acts, and of the features that they complete
abbrev pub due_lines : ClientEnd → RecordValue → List ℕ
due_lines e r = text_of (map entry_line (entries_of e.client.program.features r.on r.counted (untold e r)))

-- the record once the lines that are due wait to be taken
abbrev pub followed : ClientEnd → RecordValue → RecordValue
followed e r = record {
  on = r.on;
  counted = counted_after e.client.program.features r.on r.counted (untold e r);
  told = length (acts e);
  waiting = r.waiting ++ due_lines e r;
}

-- the record where a plan begins: on the connection of this number, with this many features and no point of the next one
abbrev pub begun : ℕ → ℕ → ℕ → RecordValue → RecordValue
begun number features told r = record {
  on = number;
  counted = record { features = features; points = 0 };
  told = told;
  waiting = r.waiting;
}

-- the number of the next connection; a client takes none that 64 bits do not count
abbrev pub next_number : RecordValue → ℕ
next_number r = min (r.on + 1) (2 ^ 64 - 1)

-- the record on the next connection, and after the plan was resumed
abbrev pub connected : ClientEnd → ClientEnd → RecordValue → RecordValue
connected old new r = begun (next_number r) (features_held new) 0 (followed old r)

abbrev pub resumed : ClientEnd → ClientEnd → RecordValue → RecordValue
resumed old new r = begun r.on (features_held new) (length (acts old)) (followed old r)

-- the lines that are due join those that wait to be taken; only out of memory they do not, and then nothing changes
abbrev pub Follows : ClientEnd → ClientEnd → RecordValue → RecordValue → Result (Unit {0}) ClientFault → Type 0
Follows old new r_old r_new answer =
    (new ≡ old) × Leads answer r_old r_new (followed old r_old) × IfErr answer (λ why. why ≡ fault.Memory)

-- a refused call leaves the record as it was, except that the lines that were due may wait to be taken
abbrev pub IsKept : ClientEnd → RecordValue → RecordValue → Type 0
IsKept e old new = (new ≡ old) ⊎ (new ≡ followed e old)

-- the client comes to the next connection of the record, after the lines of the last one; a refusal is out of memory, or is due
pub record Connects (old new : ClientEnd) (r_old r_new : RecordValue) (answer : Result (Unit {0}) ClientFault) : Type 0 where
  pub leads : Leads answer old new (end_connected (next_number r_old) old)
  pub can : OnOk answer (may_connect (next_number r_old) old.client ≡ true)
  pub refused : IfErr answer (λ why. (why ≡ fault.Memory) ⊎ IsRefused (may_connect (next_number r_old) old.client) old why)
  pub begins : OnOk answer (r_new ≡ connected old new r_old)
  pub kept : OnErr answer (IsKept old r_old r_new)

-- the client resumes its plan, after the lines that were due; a refusal is out of memory, or is due
pub record Resumes (old new : ClientEnd) (r_old r_new : RecordValue) (answer : Result (Unit {0}) ClientFault) : Type 0 where
  pub leads : Leads answer old new (end_resumed old)
  pub can : OnOk answer (may_resume old.client old.client.state ≡ true)
  pub refused : IfErr answer (λ why. (why ≡ fault.Memory) ⊎ IsRefused (may_resume old.client old.client.state) old why)
  pub begins : OnOk answer (r_new ≡ resumed old new r_old)
  pub kept : OnErr answer (IsKept old r_old r_new)

-- a call with a client and its record: both were held before and after, the number is that of an answer, and the call did this
abbrev pub CalledBoth : Option ClientEnd → Option ClientEnd → Option RecordValue → Option RecordValue → Option (Result (Unit {0}) ClientFault)
    → (ClientEnd → ClientEnd → RecordValue → RecordValue → Result (Unit {0}) ClientFault → Type 0) → Type 0
CalledBoth (Some old) (Some new) (Some r_old) (Some r_new) (Some answer) Did = Did old new r_old r_new answer
CalledBoth _ _ _ _ _ Did = ⊥

-- a prefix of what waits was copied to the start of the room, as much as fits, and waits no more
abbrev pub Takes : List ℕ → List ℕ → ℕ → RecordValue → RecordValue → Type 0
Takes room_old room_new count old new =
    (count ≡ min (length old.waiting) (length room_old)) × (room_new ≡ take count old.waiting ++ drop count room_old)
    × (new ≡ record old { waiting = drop count old.waiting })
