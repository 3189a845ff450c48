-- What reading a file of an order leaves, from any source that reports its bytes.
use Rattle.std.specs.Prelude.{◌≡◌, ◌<◌, ◌⊎◌, ℕ, List, [], Bool, false, Option, Some, None, Ok, Err, IfSome, length}
use Rattle.fixed_um.specs.declared.lengths.Point.{Point}
use Rattle.contact_ledger.specs.FeatureTexts.{IsFeatures, IsDamagedFeatures}
use Rattle.contact_ledger.specs.declared.acts.Act.{Act}
use Rattle.contact_ledger.specs.declared.features.Feature.{Feature}
use Rattle.contact_ledger.specs.declared.faults.TextFault.TheVariants as ledger
use Rattle.tool_rack.specs.Setups.{SetupValue, setup_of}
use Rattle.tool_rack.specs.declared.faults.SetupFault.TheVariants as setup
use Rattle.tool_rack.specs.MachineEntries.{Given}
use Rattle.tool_rack.specs.Machines.{machine_of}
use Rattle.tool_rack.specs.declared.machine_faults.MachineFault.TheVariants as machine
use Rattle.deviations.specs.Limits.{limits_of}
use Rattle.deviations.specs.declared.entries.Limit.{Limit}
use Rattle.deviations.specs.declared.limit_faults.LimitsFault.TheVariants as limits
use Rattle.record_text.specs.Seals.{open_line}
use Rattle.record_text.specs.Reading.{IsDamagedRecord}
use Rattle.record_text.specs.Reading as texts
use Rattle.record_text.specs.Records.{Recorded}
use Rattle.record_text.specs.declared.faults.RecordFault.TheVariants as recorded
use Rattle.link_world.specs.ScheduleTexts.{schedule_of}
use Rattle.link_world.specs.declared.texts.schedules.Instruction.{Instruction}
use Rattle.link_world.specs.declared.texts.schedule_faults.ScheduleFault.TheVariants as schedule
use Rattle.witness.specs.Either.{AreAudited, IsDamagedAudited}
use Rattle.dmis_program.specs.Meaning.{Meaning, program_of}
use Rattle.dmis_program.specs.declared.faults.ProgramFault.TheVariants as program
use Rattle.dme_orders.specs.Checked.{IsUnread}
use Rattle.order_parts.specs.declared.faults.Role.{Role}
use Rattle.order_parts.specs.declared.faults.Role.TheVariants as role
use Rattle.order_parts.specs.declared.faults.FilesFault.{FilesFault}
use Rattle.order_parts.specs.declared.faults.FilesFault.TheVariants as fault

-- a source that reported this text was read to its end, and this holds of the text
pub record WasRead (left : Option (List ℕ)) (Holds : List ℕ → Type 0) (text : List ℕ) : Type 0 where
  pub whole : left ≡ Some []
  pub holds : Holds text

-- a source before and after a call: the bytes that it has left, if it reports them, and whether it has failed
pub record Came (S : Type 0) : Type 0 where
  pub left : S → Option (List ℕ)
  pub has_failed : S → Bool
  pub old : S
  pub new : S

abbrev pub came : {S : Type 0} → (S → Option (List ℕ)) → (S → Bool) → (old new : S) → Came S
came left has_failed old new = record { left = left; has_failed = has_failed; old = old; new = new }

-- it is as it was
abbrev pub IsUntouched : {S : Type 0} → Came S → Type 0
IsUntouched c = c.new ≡ c.old

-- a source was read to its end and has not failed, and this holds of its text, if it reported one
pub record Reads {S : Type 0} (c : Came S) (Holds : List ℕ → Type 0) : Type 0 where
  pub works : c.has_failed c.new ≡ false
  pub text : IfSome (c.left c.old) (WasRead (c.left c.new) Holds)

-- memory ran out, and the source has not failed meanwhile
abbrev pub IsStillWorking : Bool → Bool → Type 0
IsStillWorking before after = before ≡ false → after ≡ false

-- a seal of the key, if one is given, stands for each line of a text; or for each line above this one
abbrev pub IsSealed : Option (List ℕ) → List ℕ → Type 0
IsSealed None text = Unit {0}
IsSealed (Some key) text = open_line key text ≡ None

abbrev pub IsOpenAt : Option (List ℕ) → List ℕ → ℕ → Type 0
IsOpenAt None text line = ⊥
IsOpenAt (Some key) text line = open_line key text ≡ Some line

abbrev pub IsUnsealed : Option (List ℕ) → List ℕ → FilesFault → Type 0
IsUnsealed key text (fault.BadSeal line) = IsOpenAt key text line
IsUnsealed key text fault.Memory = Unit {0}
IsUnsealed key text _ = ⊥

module _ {S : Type 0} (c : Came S) where
  -- what the whole text of a source is called if it was not read to its end
  abbrev pub WhyNoText : Role → FilesFault → Type 0
  WhyNoText part (fault.Unread given) = (given ≡ part) × IsUnread c.left c.has_failed c.old c.new
  WhyNoText part fault.Memory = IsStillWorking (c.has_failed c.old) (c.has_failed c.new)
  WhyNoText part _ = ⊥

  -- the setup of a source
  abbrev pub ReadsSetup : SetupValue → Type 0
  ReadsSetup said = Reads c (λ text. setup_of text ≡ Ok said)

  -- why there is no setup: its whole text is refused for the reason that is due, which is never running out of memory; or it was not read
  -- to its end
  abbrev pub WhyNoSetup : FilesFault → Type 0
  WhyNoSetup (fault.Setup setup.Memory) = ⊥
  WhyNoSetup (fault.Setup cause) = Reads c (λ text. setup_of text ≡ Err cause)
  WhyNoSetup given = WhyNoText role.Setup given

  -- the instructions of a source
  abbrev pub ReadsSchedule : List Instruction → Type 0
  ReadsSchedule said = Reads c (λ text. schedule_of text ≡ Ok said)

  -- why there are no such values
  abbrev pub WhyNoSchedule : FilesFault → Type 0
  WhyNoSchedule (fault.Schedule schedule.Memory) = ⊥
  WhyNoSchedule (fault.Schedule cause) = Reads c (λ text. schedule_of text ≡ Err cause)
  WhyNoSchedule given = WhyNoText role.Schedule given

  -- the features of a source
  abbrev pub ReadsFeatures : List Feature → Type 0
  ReadsFeatures said = Reads c (λ text. IsFeatures text said)

  -- why there are no such values
  abbrev pub WhyNoFeatures : FilesFault → Type 0
  WhyNoFeatures (fault.Features (ledger.Damaged n)) = Reads c (λ text. IsDamagedFeatures text n)
  WhyNoFeatures given = WhyNoText role.Features given

  -- the acts of a source: those of a server, or those of runs in what it reported, by the first line of the text
  abbrev pub ReadsContacts : List (ℕ × Act) → Type 0
  ReadsContacts said = Reads c (λ text. AreAudited text said)

  -- why there are no such values
  abbrev pub WhyNoContacts : FilesFault → Type 0
  WhyNoContacts (fault.Contacts (ledger.Damaged n)) = Reads c (λ text. IsDamagedAudited text n)
  WhyNoContacts given = WhyNoText role.Contacts given

  -- the record of a source, or that its text is not a record yet
  abbrev pub ReadsRecord : Option Recorded → Type 0
  ReadsRecord said = Reads c (λ text. texts.ReadsRecord text (Ok said))

  -- why there is none: this line of its text is the first that is damaged
  abbrev pub WhyNoRecord : FilesFault → Type 0
  WhyNoRecord (fault.Record (recorded.Damaged n)) = Reads c (λ text. IsDamagedRecord text n)
  WhyNoRecord given = WhyNoText role.Record given

  -- the key of a source, which has a byte
  abbrev pub ReadsKey : List ℕ → Type 0
  ReadsKey key = Reads c (λ text. (key ≡ text) × (0 < length text))

  abbrev pub WhyNoKey : FilesFault → Type 0
  WhyNoKey fault.EmptyKey = Reads c (λ text. text ≡ [])
  WhyNoKey given = WhyNoText role.Key given

  -- why there is no record that is sealed: no seal stands for this line of its text
  abbrev pub WhyNoSealed : Option (List ℕ) → FilesFault → Type 0
  WhyNoSealed key (fault.BadSeal line) = Reads c (λ text. IsOpenAt key text line)
  WhyNoSealed key given = WhyNoRecord given

  -- the limits of a source
  abbrev pub ReadsLimits : List Limit → Type 0
  ReadsLimits said = Reads c (λ text. limits_of text ≡ Ok said)

  -- why there are no such values
  abbrev pub WhyNoLimits : FilesFault → Type 0
  WhyNoLimits (fault.Limits limits.Memory) = ⊥
  WhyNoLimits (fault.Limits cause) = Reads c (λ text. limits_of text ≡ Err cause)
  WhyNoLimits given = WhyNoText role.Limits given

  -- the machine's file of a source
  abbrev pub ReadsMachine : List Given → Type 0
  ReadsMachine said = Reads c (λ text. machine_of text ≡ Ok said)

  -- why there is none
  abbrev pub WhyNoMachine : FilesFault → Type 0
  WhyNoMachine (fault.Machine machine.Memory) = ⊥
  WhyNoMachine (fault.Machine cause) = Reads c (λ text. machine_of text ≡ Err cause)
  WhyNoMachine given = WhyNoText role.Machine given

  -- the program of a source under frames
  abbrev pub ReadsProgram : List (List ℕ × Point) → Meaning → Type 0
  ReadsProgram frames said = Reads c (λ text. program_of frames text ≡ Ok said)

  -- why there is no such value
  abbrev pub WhyNoProgram : List (List ℕ × Point) → FilesFault → Type 0
  WhyNoProgram frames (fault.Program program.Memory) = ⊥
  WhyNoProgram frames (fault.Program (program.Refused refusal line)) =
      Reads c (λ text. program_of frames text ≡ Err (refusal, line))
  WhyNoProgram frames given = WhyNoText role.Program given
