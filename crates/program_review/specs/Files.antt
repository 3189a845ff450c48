-- The files of an order, and what is shown for the fault of one (this profile).
use Rattle.std.specs.Prelude.{◌≡◌, ℕ, Bool, ◌||◌, false, List, [], string_bytes, Option, Some}
use Rattle.tool_rack.specs.declared.faults.SetupFault.TheVariants as setup
use Rattle.dmis_program.specs.declared.faults.ProgramFault.TheVariants as program
use Rattle.link_world.specs.declared.texts.schedule_faults.ScheduleFault.TheVariants as schedule
use Rattle.deviations.specs.declared.limit_faults.LimitsFault.TheVariants as limits
use Rattle.tool_rack.specs.declared.machine_faults.MachineFault.TheVariants as machine
use Rattle.record_text.specs.declared.faults.RecordFault.TheVariants as recorded
use Rattle.order_parts.specs.declared.faults.FilesFault.{FilesFault}
use Rattle.order_parts.specs.declared.faults.FilesFault.TheVariants as files
use Rattle.order_parts.specs.declared.faults.Role.{Role}
use Rattle.order_parts.specs.declared.faults.Role.TheVariants as role
use Rattle.contact_ledger.specs.declared.faults.TextFault.TheVariants as ledger
use Rattle.program_review.specs.declared.files.InputFile.{InputFile}
use Rattle.program_review.specs.declared.files.InputFiles.{InputFiles}
use Rattle.program_review.specs.Places.{Places}
use Rattle.order_parts.specs.declared.faults.OrderFault.{OrderFault}
use Rattle.order_parts.specs.declared.faults.OrderFault.TheVariants as fault

-- the file of this name is shown as one that cannot be read
abbrev pub ShowsFile : Option (List ℕ) → OrderFault → Type 0
ShowsFile name (fault.CannotRead file) = name ≡ Some (string_bytes file)
ShowsFile name _ = ⊥

-- the file of an order that is this to it
abbrev pub file_in : InputFiles → Role → InputFile
file_in files role.Setup = files.setup
file_in files role.Schedule = files.schedule
file_in files role.Features = files.features
file_in files role.Contacts = files.contacts
file_in files role.Record = files.record
file_in files role.Limits = files.limits
file_in files role.Machine = files.machine
file_in files role.Key = files.key
file_in files role.Program = files.program

-- there was no memory to keep the whole text of one of them
abbrev pub is_short : InputFiles → Bool
is_short files = files.setup.is_short || (files.schedule.is_short || (files.features.is_short || (files.contacts.is_short
    || (files.record.is_short || (files.limits.is_short || (files.machine.is_short || (files.key.is_short || files.program.is_short)))))))

-- a file without a name, of which nothing was read
pub record IsUnnamed (file : InputFile) : Type 0 where
  pub name : string_bytes file.name ≡ []
  pub text : file.text.items ≡ []
  pub whole : file.is_short ≡ false

pub record AreUnnamed (files : InputFiles) : Type 0 where
  pub setup : IsUnnamed files.setup
  pub schedule : IsUnnamed files.schedule
  pub features : IsUnnamed files.features
  pub contacts : IsUnnamed files.contacts
  pub recorded : IsUnnamed files.record
  pub limits : IsUnnamed files.limits
  pub machine : IsUnnamed files.machine
  pub key : IsUnnamed files.key
  pub program : IsUnnamed files.program

-- what is shown for the fault of an order, by its files: the refusal, or the name of the file
abbrev pub IsFaultShown : FilesFault → (Role → InputFile) → OrderFault → Type 0
IsFaultShown (files.Setup setup.Memory) file shown = shown ≡ fault.Memory
IsFaultShown (files.Setup cause) file shown = shown ≡ fault.Setup cause
IsFaultShown (files.Schedule schedule.Memory) file shown = shown ≡ fault.Memory
IsFaultShown (files.Schedule cause) file shown = shown ≡ fault.Schedule cause
IsFaultShown (files.Features ledger.Memory) file shown = shown ≡ fault.Memory
IsFaultShown (files.Features cause) file shown = shown ≡ fault.Features cause
IsFaultShown (files.Contacts ledger.Memory) file shown = shown ≡ fault.Memory
IsFaultShown (files.Contacts cause) file shown = shown ≡ fault.Contacts cause
IsFaultShown (files.Record recorded.Memory) file shown = shown ≡ fault.Memory
IsFaultShown (files.Record cause) file shown = shown ≡ fault.Record cause
IsFaultShown (files.Limits limits.Memory) file shown = shown ≡ fault.Memory
IsFaultShown (files.Limits cause) file shown = shown ≡ fault.Limits cause
IsFaultShown (files.Machine machine.Memory) file shown = shown ≡ fault.Memory
IsFaultShown (files.Machine cause) file shown = shown ≡ fault.Machine cause
IsFaultShown (files.OtherProgram label) file shown = shown ≡ fault.OtherProgram label
IsFaultShown (files.BadSeal line) file shown = shown ≡ fault.BadSeal line
IsFaultShown files.EmptyKey file shown = shown ≡ fault.EmptyKey
IsFaultShown (files.Program program.Memory) file shown = shown ≡ fault.Memory
IsFaultShown (files.Program cause) file shown = shown ≡ fault.Program cause
IsFaultShown (files.Unread role) file shown = ShowsFile (Some (string_bytes (file role).name)) shown
IsFaultShown files.NotOurs file shown = shown ≡ fault.NotOurs
IsFaultShown files.Write file shown = shown ≡ fault.CannotWriteOutput
IsFaultShown files.Memory file shown = shown ≡ fault.Memory

-- which file a fault blames at a line
abbrev pub refused_file : FilesFault → Role
refused_file (files.Setup cause) = role.Setup
refused_file (files.Schedule cause) = role.Schedule
refused_file (files.Features cause) = role.Features
refused_file (files.Contacts cause) = role.Contacts
refused_file (files.Record cause) = role.Record
refused_file (files.Limits cause) = role.Limits
refused_file (files.Machine cause) = role.Machine
refused_file (files.BadSeal line) = role.Record
refused_file _ = role.Program

-- where the file of a fault is refused, by the order's files; nothing if no file is refused at a line
abbrev pub IsPlaceIn : FilesFault → InputFile → List ℕ → Type 0
IsPlaceIn fault file shown = Places fault (string_bytes file.name) file.text.items [] shown

abbrev pub IsPlaceShown : FilesFault → (Role → InputFile) → List ℕ → Type 0
IsPlaceShown fault file shown = IsPlaceIn fault (file (refused_file fault)) shown
